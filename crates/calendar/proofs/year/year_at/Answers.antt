-- `calendar::year::year_at` meets its contract: the guess is right, or a year late or early.
use Rattle.numbers.proofs.Prelude.{rules, arith}
use Rattle.calendar.proofs.year.{Guess.{late, right, early}}
use Rattle.calendar.proofs.year.year_at.Goals as goal

pub returns-then-day-days_of_years : goal.returns-then-day-days_of_years
returns-then-day-days_of_years c =
    late _ _ c.requires (search rules) (search rules) (omega arith)

pub returns-then-days_of_years-day : goal.returns-then-days_of_years-day
returns-then-days_of_years-day c =
    early _ _ c.requires (search rules) (search rules) (omega (arith, c.days_of_years-2.ensures))
