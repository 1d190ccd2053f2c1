-- `salvage::rescue::whole::table_size` meets its contract.
use Rattle.salvage.proofs.rescue.whole.{Assembling.{table_sized}}
use Rattle.salvage.proofs.rescue.whole.table_size.Goals as goal

pub returns : goal.returns
returns c =
    table_sized _ _ _ _ _ c.put_table.ensures
