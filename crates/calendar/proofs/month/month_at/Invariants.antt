-- `calendar::month::month_at` meets its contract: no month that was passed holds the day, and December is not passed.
use Rattle.numbers.proofs.Prelude.{◌-◌, ◌≤◌}
use Rattle.calendar.specs.Calendar.{days_of_months}
use Rattle.calendar.proofs.month.month_at.Given as goal

abbrev pub invariant-loop-month : goal.invariant-loop-month
invariant-loop-month l = (1 ≤ l.month) × (l.month ≤ 12) × (days_of_months l.leap (l.month - 1) ≤ l.place)

abbrev pub decreases-loop-month : goal.decreases-loop-month
decreases-loop-month l = 12 - l.month
