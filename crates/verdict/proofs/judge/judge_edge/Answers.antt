-- `verdict::judge::judge_edge` meets its contract: what its calls ensure, in the order of the definition.
use Rattle.verdict.proofs.{Kept.{quadrant_kept, spot_kept}, Halts.{exits, goes_on}}
use Rattle.numbers.proofs.Prelude.{true, false, ◌∙◌}
use Rattle.verdict.specs.{Distance.{measured}, Verdict.{along}}
use Rattle.verdict.proofs.judge.judge_edge.Goals as goal

pub wound-requires : goal.wound-requires
wound-requires c =
    (c.requires.fixed, quadrant_kept _ _ c.requires.left, quadrant_kept _ _ c.requires.reached)

pub returns-in_err-counted : goal.returns-in_err-counted
unfolding along
returns-in_err-counted c =
    exits c.from_residual.result c.in_err-counted.was c.wound.ensures c.from_residual.ensures.1 _

pub measure-requires : goal.measure-requires
measure-requires c =
    (c.requires.fixed, spot_kept _ _ c.requires.left c.if-asked.true, spot_kept _ _ c.requires.reached c.if-asked.true)

pub returns-then-asked : goal.returns-then-asked
unfolding along
returns-then-asked c =
    rw c.if-asked.true (c.measure.ensures ∙ goes_on c.wound.result c.wound.ensures c.in_ok-counted.was (measured true c.args.fix c.args.from.point c.args.to.point))

pub returns : goal.returns
unfolding along measured
returns c =
    rw c.if-asked.false (goes_on c.wound.result c.wound.ensures c.in_ok-counted.was (measured false c.args.fix c.args.from.point c.args.to.point))
