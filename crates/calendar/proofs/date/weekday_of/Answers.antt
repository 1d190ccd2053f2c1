-- `calendar::date::weekday_of` meets its contract: the weekdays come round in seven days.
use Rattle.numbers.proofs.Prelude.{arith}
use Rattle.calendar.proofs.{Laws.{weekday_closed}}
use Rattle.calendar.proofs.date.weekday_of.Goals as goal

pub returns : goal.returns
returns c =
    omega (arith, weekday_closed c.args.day)
