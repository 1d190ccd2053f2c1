-- `salvage::entries::border_size` meets its contract.
use Rattle.salvage.proofs.{data.Drawing.{border_drawn}, entries.{Tabling.{sized_of, measured_if}}}
use Rattle.salvage.specs.{File.{border_bytes}, Kept.{entry_good}}
use Rattle.salvage.proofs.entries.border_size.Goals as goal

pub returns : goal.returns
returns c =
    measured_if (entry_good c.args.file.now c.args.head c.args.row) (border_bytes c.args.file.now c.args.head c.args.row) _ (λ good. sized_of (border_drawn
    c.args.file.now c.args.head c.args.row good c.encoding_in.ensures c.section_place-place.ensures c.put_border.ensures))
