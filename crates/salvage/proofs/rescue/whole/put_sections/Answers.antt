-- `salvage::rescue::whole::put_sections` meets its contract.
use Rattle.numbers.proofs.Prelude.{rules, length, ◌≡◌}
use Rattle.salvage.proofs.rescue.whole.{Assembling.{sections_laid}}
use Rattle.salvage.proofs.rescue.whole.put_sections.Goals as goal

pub returns : goal.returns
returns c =
    let same : length c.put_table-metadata.new.out ≡ length c.args.out.now = search rules in
    sections_laid _ _ c.args.out.now c.args.at c.put_table-metadata.ensures c.put_metadata-data.ensures c.put_data.ensures same
