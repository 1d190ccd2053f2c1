-- `salvage::entries::put_table` meets its contract.
use Rattle.numbers.proofs.Prelude.{refl}
use Rattle.salvage.proofs.entries.{Tabling.{tables_start, tables_go, tables_end}}
use Rattle.salvage.proofs.entries.put_table.Goals as goal

pub loop-row-init : goal.loop-row-init
loop-row-init c =
    tables_start _ _ _ _ c.start_at-from.ensures

pub returns : goal.returns
returns c =
    tables_end _ _ _ _ c.loop-row.invariant (rw c.in_default.is at c.next_kept.ensures)

pub loop-row-preserved : goal.loop-row-preserved
loop-row-preserved c =
    tables_go _ _ _ _ _ c.loop-row.invariant (rw c.in-Some.is at c.next_kept.ensures) c.after-from.ensures refl c.border_size-size.ensures c.put_entry-next.ensures
