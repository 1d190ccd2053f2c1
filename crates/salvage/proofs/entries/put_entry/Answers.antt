-- `salvage::entries::put_entry` meets its contract.
use Rattle.salvage.proofs.{moves.Capping.{capped_then, capped_form}}
use Rattle.salvage.specs.File.{entry_bytes}
use Rattle.salvage.proofs.entries.put_entry.Goals as goal

pub returns : goal.returns
unfolding entry_bytes
returns c =
    capped_then _ _ c.put_box-next.ensures (capped_then _ _ (capped_form c.id_form.ensures c.put_number-behind.ensures) c.put_number.ensures)
