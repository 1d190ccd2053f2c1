-- `table::table::entry_at` meets its contract.
use Rattle.numbers.{proofs.{Laws.{exits, goes_on}, Prelude.{◌∙◌}}, specs.Varint.{reading_of}}
use Rattle.table.proofs.table.Bounding.{entry_bounded}
use Rattle.table.proofs.table.entry_at.Goals as goal

pub returns-in_err-bounded : goal.returns-in_err-bounded
returns-in_err-bounded c =
    exits c.from_residual.result c.in_err-bounded.was c.bounded_at.ensures c.from_residual.ensures.1 _ ∙ entry_bounded (reading_of c.args.strict c.args.file.now) c.args.place

pub returns : goal.returns
returns c =
    c.steps_at.ensures ∙ goes_on c.bounded_at.result c.bounded_at.ensures c.in_ok-bounded.was _ ∙ entry_bounded (reading_of c.args.strict c.args.file.now) c.args.place
