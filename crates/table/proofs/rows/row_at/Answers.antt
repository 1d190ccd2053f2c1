-- `table::rows::row_at` meets its contract.
use Rattle.numbers.{proofs.{Laws.{exits}, Prelude.{sym, ap, ◌∙◌}}, specs.Varint.{told}}
use Rattle.table.proofs.rows.{Entering.{row_read}}
use Rattle.table.specs.Rows.{row_by}
use Rattle.table.proofs.rows.row_at.Goals as goal

pub returns-in_err-entry : goal.returns-in_err-entry
unfolding row_by
returns-in_err-entry c =
    exits c.from_residual.result c.in_err-entry.was c.entry_at.ensures c.from_residual.ensures.1 _

pub returns : goal.returns
returns c =
    row_read _ _ (sym (ap told c.in_ok-entry.was) ∙ c.entry_at.ensures) c.row_of.ensures
