-- `calendar::month::month_length` meets its contract: a month more adds its length.
use Rattle.numbers.proofs.Prelude.{arith}
use Rattle.calendar.proofs.{Months.{month_more}}
use Rattle.calendar.proofs.month.month_length.Goals as goal

pub overflow_sub-result : goal.overflow_sub-result
overflow_sub-result c =
    omega (arith, c.days_of_months-2.ensures, c.days_of_months.ensures, month_more c.args.leap c.args.month c.requires.0)

pub returns : goal.returns
returns c =
    omega (arith, c.days_of_months-2.ensures, c.days_of_months.ensures, month_more c.args.leap c.args.month c.requires.0)
