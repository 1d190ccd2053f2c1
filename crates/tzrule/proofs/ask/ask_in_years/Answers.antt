-- `tzrule::ask::ask_in_years` meets its contract.
use Rattle.numbers.proofs.Prelude.{sym, ◌∙◌}
use Rattle.tzrule.proofs.ask.{Ways.{ask_inside, ask_outside}}
use Rattle.tzrule.proofs.ask.ask_in_years.Goals as goal

pub clock_at-requires : goal.clock_at-requires
clock_at-requires c =
    (sym c.in_years.ensures ∙ c.if-in_years.true, c.requires)

pub returns-then-in_years : goal.returns-then-in_years
returns-then-in_years c =
    ask_inside _ _ (sym c.in_years.ensures ∙ c.if-in_years.true) c.clock_at.ensures

pub returns : goal.returns
returns c =
    ask_outside _ _ (sym c.in_years.ensures ∙ c.if-in_years.false)
