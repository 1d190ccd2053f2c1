-- `calendar::year::days_of_years` meets its contract: the closed form is the count.
use Rattle.numbers.proofs.Prelude.{sym}
use Rattle.calendar.proofs.{Laws.{days_closed}}
use Rattle.calendar.proofs.year.days_of_years.Goals as goal

pub returns : goal.returns
returns c =
    sym (days_closed c.args.year)
