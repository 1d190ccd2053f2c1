-- `marks::judge::answer` meets its contract.
use Rattle.numbers.proofs.Prelude.{◌∙◌}
use Rattle.verdict.{proofs.Halts.{ends_alike}, specs.Verdict.{then_on}}
use Rattle.marks.proofs.judge.answer.Goals as goal

pub returns-in-Ok : goal.returns-in-Ok
unfolding then_on
returns-in-Ok c =
    rw c.in-Ok.is c.closed.ensures

pub returns-in-Err : goal.returns-in-Err
returns-in-Err c =
    rw c.in-Err.is (rw c.in-Err.is at c.stopped.ensures ∙ ends_alike _ _ _ _ _)
