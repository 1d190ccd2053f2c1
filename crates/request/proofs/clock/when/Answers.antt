-- `request::clock::when` meets its contract.
use Rattle.numbers.{proofs.Prelude.{sym, ap, ◌∙◌}, specs.Answer.{Answer}}
use Rattle.request.proofs.{Times.{when_moment, when_seconds}}
use Rattle.request.specs.{Clock.{When, instant_at}, Request.{at}, Told.{shown}}
use Rattle.request.proofs.clock.when.Goals as goal

pub returns-then-formed : goal.returns-then-formed
returns-then-formed c =
    c.moment.ensures ∙ ap (λ (a : Answer When). shown (at c.args.place a) instant_at) (when_moment c.args.text.now (sym c.formed.ensures ∙ c.if-formed.true))

pub returns : goal.returns
returns c =
    c.seconds.ensures ∙ ap (λ (a : Answer When). shown (at c.args.place a) instant_at) (when_seconds c.args.text.now (sym c.formed.ensures ∙ c.if-formed.false))
