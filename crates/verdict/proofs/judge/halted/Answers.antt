-- `verdict::judge::halted` meets its contract.
use Rattle.verdict.specs.Verdict.{then_on}
use Rattle.verdict.proofs.judge.halted.Goals as goal

pub returns-in-Meets : goal.returns-in-Meets
unfolding then_on
returns-in-Meets c =
    rw c.in-Meets.is c.on_border.ensures

pub returns-in-Over : goal.returns-in-Over
unfolding then_on
returns-in-Over c =
    rw c.in-Over.is
