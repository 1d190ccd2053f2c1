-- `verdict::judge::judge_point` meets its contract: what its calls ensure, in the order of the definition.
use Rattle.verdict.specs.Verdict.{along, passing}
use Rattle.verdict.proofs.judge.judge_point.Goals as goal

pub returns-then-same_point : goal.returns-then-same_point
unfolding passing
returns-then-same_point c =
    rw (← c.same_point.ensures, c.if-same_point.true)

pub returns-then-begun : goal.returns-then-begun
unfolding passing
returns-then-begun c =
    rw (← c.same_point.ensures, c.if-same_point.false, c.if-begun.true) c.judge_edge.ensures

pub returns : goal.returns
unfolding along passing
returns c =
    rw (← c.same_point.ensures, c.if-same_point.false, c.if-begun.false)
