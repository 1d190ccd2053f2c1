-- `draft::summed::arrange::lay_out` meets its contract.
use Rattle.numbers.proofs.Prelude.{length-take-le, sym}
use Rattle.build.proofs.Needed.{under}
use Rattle.draft.proofs.summed.{Reached.{reached, arranging_laying, front_room, order_room, arranged}}
use Rattle.draft.proofs.summed.arrange.lay_out.Goals as goal

pub spread_borders-requires : goal.spread_borders-requires
spread_borders-requires c =
    front_room _ _ _ (reached _ _ _ _ _ _ c.requires.summing).places

pub lay_records-section-requires : goal.lay_records-section-requires
lay_records-section-requires c =
    arranging_laying _ _ _ _ _ _ c.requires _ c.places-1.given

pub slice_bounds-order_boxes-end : goal.slice_bounds-order_boxes-end
slice_bounds-order_boxes-end c =
    under _ _ _ (reached _ _ _ _ _ _ c.requires.summing).keys_count c.keys-1.given

pub slice_bounds-order_boxes-end-2 : goal.slice_bounds-order_boxes-end-2
slice_bounds-order_boxes-end-2 c =
    sym (length-take-le _ _ (under _ _ _ (reached _ _ _ _ _ _ c.requires.summing).keys_count c.keys-1.given))

pub order_boxes-requires : goal.order_boxes-requires
order_boxes-requires c =
    order_room _ _ _ _ _ (length-take-le _ _ (under _ _ _ (reached _ _ _ _ _ _ c.requires.summing).keys_count c.keys-1.given)) c.requires.summing.few (reached _ _ _
    _ _ _ c.requires.summing).boxes (reached _ _ _ _ _ _ c.requires.summing).spare_count c.spare-1.given

pub returns : goal.returns
returns c =
    arranged _ _ _ _ _ _ _ _ c.order_boxes.new.keys _ _ _ _ _ _ _ _ _ _ (length-take-le _ c.lay_records-section.new.keys (under _ _ _ (reached _ _ _ _ _ _
    c.requires.summing).keys_count c.keys-1.given)) c.spread_borders.ensures c.lay_records-section.ensures c.order_boxes.ensures
