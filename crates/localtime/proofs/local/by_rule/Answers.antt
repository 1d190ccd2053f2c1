-- `localtime::local::by_rule` meets its contract.
use Rattle.numbers.proofs.Prelude.{refl, ap}
use Rattle.std.specs.Prelude.{Some}
use Rattle.tzif.specs.{Reply.{given}, declared.local.Found.{Found}}
use Rattle.localtime.proofs.rule.Ways.{holds_clock, clock_short, clock_found}
use Rattle.localtime.specs.Local.{by_rule}
use Rattle.localtime.proofs.local.by_rule.Goals as goal

pub found_of-requires : goal.found_of-requires
found_of-requires c =
    clock_short _ (holds_clock _ c.in-Some.is c.requires)

pub returns-in_default : goal.returns-in_default
unfolding by_rule
returns-in_default c =
    (rw (c.in_default.is, c.refuse.ensures) refl, tt)

pub returns : goal.returns
unfolding by_rule
returns c =
    (rw c.in-Some.is (ap (λ (x : Found). given (Some x)) c.found_of.ensures), clock_found _ _ (holds_clock _ c.in-Some.is c.requires) c.found_of.ensures)
