-- `calendar::rule::last_on` meets its contract.
use Rattle.numbers.proofs.Prelude.{ℕ, ◌+◌, ◌-◌, ◌%◌, ap, arith}
use Rattle.calendar.proofs.{Weeks.{weekday_small}}
use Rattle.calendar.specs.Rules.{last_on}
use Rattle.calendar.proofs.rule.last_on.Goals as goal

pub overflow_add-result : goal.overflow_add-result
overflow_add-result c =
    omega (arith, c.weekday_of.ensures, weekday_small c.args.day)

pub returns : goal.returns
unfolding last_on
returns c =
    ap (λ (w : ℕ). c.args.day - (w + 7 - c.args.weekday) % 7) c.weekday_of.ensures
