-- `slip::hour::blame` meets its contract.
use Rattle.numbers.{proofs.Prelude.{◌∙◌}, specs.Reply.{refusal}}
use Rattle.slip.specs.Hour.{blamed}
use Rattle.slip.proofs.hour.blame.Goals as goal

pub returns : goal.returns
returns c =
    c.refuse.ensures ∙ (λ i. refusal c.args.why.number (c.cause_of.ensures i) c.args.why.detail)
