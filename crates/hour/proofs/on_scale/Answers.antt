-- `hour::on_scale` meets its contract.
use Rattle.numbers.proofs.Prelude.{ap, ◌∙◌}
use Rattle.tzif.specs.Reply.{refused}
use Rattle.hour.proofs.{Answers.{own_scale, other-scale}}
use Rattle.hour.proofs.on_scale.Goals as goal

pub returns-then-timed-eq2 : goal.returns-then-timed-eq2
returns-then-timed-eq2 c =
    ap refused c.refuse.ensures ∙ own_scale _ _ c.if-timed-eq2.true

pub returns : goal.returns
returns c =
    other-scale _ _ c.if-timed-eq2.false
