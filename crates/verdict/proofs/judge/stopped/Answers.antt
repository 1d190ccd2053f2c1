-- `verdict::judge::stopped` meets its contract.
use Rattle.numbers.proofs.Prelude.{refl, ◌∙◌}
use Rattle.verdict.specs.Verdict.{then_on}
use Rattle.verdict.proofs.Halts.{ends_alike}
use Rattle.verdict.proofs.judge.stopped.Goals as goal

pub returns-in-Ok : goal.returns-in-Ok
unfolding then_on
returns-in-Ok c =
    rw c.in-Ok.is refl

pub returns-in-Err : goal.returns-in-Err
returns-in-Err c =
    rw c.in-Err.is (c.halted.ensures ∙ ends_alike _ _ _ _ _)
