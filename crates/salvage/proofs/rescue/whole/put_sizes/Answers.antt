-- `salvage::rescue::whole::put_sizes` meets its contract.
use Rattle.salvage.proofs.rescue.whole.{Assembling.{sizes_laid}}
use Rattle.salvage.proofs.rescue.whole.put_sizes.Goals as goal

pub returns : goal.returns
returns c =
    sizes_laid c.table_size.ensures c.metadata_size.ensures c.data_size.ensures c.put_number-table.ensures c.put_number-metadata.ensures c.put_number.ensures
