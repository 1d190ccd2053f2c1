-- `salvage::data::put_data` meets its contract.
use Rattle.salvage.proofs.data.{Drawing.{border_drawn, draws_start, draws_go}}
use Rattle.salvage.proofs.data.put_data.Goals as goal

pub loop-row-init : goal.loop-row-init
loop-row-init c =
    draws_start _ _ _ _ c.start_at-from.ensures

pub loop-row-preserved : goal.loop-row-preserved
loop-row-preserved c =
    draws_go _ _ _ _ _ c.loop-row.invariant (rw c.in-Some.is at c.next_kept.ensures) c.after-from.ensures (border_drawn _ _ _ (rw c.in-Some.is at
    c.next_kept.ensures).good c.encoding_in.ensures c.section_place-place.ensures c.put_border-next.ensures)
