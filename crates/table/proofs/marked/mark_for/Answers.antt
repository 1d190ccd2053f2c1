-- `table::marked::mark_for` meets its contract, by the tests that led to each answer.
use Rattle.numbers.proofs.Prelude.{List·getD-eq-default, sym}
use Rattle.table.proofs.marked.mark_for.Goals as goal

pub returns-then-k-marks : goal.returns-then-k-marks
returns-then-k-marks c =
    c.wide-word.ensures.0

pub returns : goal.returns
returns c =
    sym (List·getD-eq-default c.args.marks.now 0 c.if-k-marks.false)
