-- `table::listed::row_at` meets its contract.
use Rattle.table.proofs.listed.{Given.{row_read}}
use Rattle.table.proofs.listed.row_at.Goals as goal

pub returns : goal.returns
returns c =
    row_read c.args.records.now c.args.k c.wide-place.ensures.0 c.requires.2
