-- `add::offered::draw::draw_offer` meets its contract.
use Rattle.numbers.proofs.Prelude.{length-take-le, sym, arith}
use Rattle.add.proofs.offered.{Offering.{offer_lends, offer_draws}}
use Rattle.add.proofs.offered.draw.draw_offer.Goals as goal

pub slice_bounds-draw_border-end : goal.slice_bounds-draw_border-end
slice_bounds-draw_border-end c =
    sym (length-take-le _ _ (omega arith))

pub draw_border-requires : goal.draw_border-requires
draw_border-requires c =
    offer_lends _ _ _ _ _ _ _ _ _ _ _ c.data_room-most.ensures c.data_room-limit.ensures c.requires.1

pub returns : goal.returns
returns c =
    offer_draws _ _ _ _ _ _ c.data_room-most.ensures c.data_room-limit.ensures _ _ _ _ _ _ c.draw_border.ensures
