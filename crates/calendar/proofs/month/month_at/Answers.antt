-- `calendar::month::month_at` meets its contract: no month that was passed holds the day, and December is not passed.
use Rattle.numbers.proofs.Prelude.{ℕ, ◌+◌, ◌-◌, ◌≤◌, rules, ◌≡◌, subst, arith}
use Rattle.calendar.proofs.{Months.{not_last, placed}}
use Rattle.calendar.specs.Calendar.{days_of_months}
use Rattle.calendar.proofs.month.month_at.Goals as goal

pub loop-month-init : goal.loop-month-init
unfolding days_of_months
loop-month-init c = search rules

pub returns : goal.returns
returns c =
    rw c.days_of_months-before.ensures (placed _ _ _ c.loop-month.invariant.0 c.loop-month.invariant.1 c.loop-month.invariant.2 (omega (arith, c.days_of_months.ensures)))
