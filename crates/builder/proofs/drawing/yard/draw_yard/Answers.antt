-- `builder::drawing::yard::draw_yard` meets its contract.
use Rattle.numbers.proofs.Prelude.{length-take-le, refl, sym, arith}
use Rattle.builder.proofs.{Checking.{ends_inside, begins_inside}, drawing.{Lending.{lends}, Parted.{next_after, part_few, yard_drawn}}}
use Rattle.builder.proofs.drawing.yard.draw_yard.Goals as goal

pub draw_border-requires : goal.draw_border-requires
draw_border-requires c =
    lends _ _ _ _ _ _ _ _ _ (part_few _ _ _ _ _ c.part_end-lat_end.ensures) c.requires.4 c.lent_for-lent.ensures

pub returns : goal.returns
returns c =
    yard_drawn _ _ _ _ _ _ _ _ _ _ _ _ c.requires.2 _ _ _ c.part_end-lat_end.ensures c.part_end-lon_end.ensures c.next_part-piece_end.ensures _ refl _ _ _
    c.draw_border.ensures
