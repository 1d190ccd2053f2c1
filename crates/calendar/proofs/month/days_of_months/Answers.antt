-- `calendar::month::days_of_months` meets its contract: the closed form is the count, at each month.
use Rattle.calendar.proofs.{Months.{in_january, in_leap, in_common}}
use Rattle.calendar.proofs.month.days_of_months.Goals as goal

pub returns-then-month-lt2 : goal.returns-then-month-lt2
returns-then-month-lt2 c =
    in_january _ _ c.requires c.if-month-lt2.true

pub returns-then-leap : goal.returns-then-leap
returns-then-leap c =
    in_leap _ _ c.requires c.if-month-lt2.false c.if-leap.true

pub returns : goal.returns
returns c =
    in_common _ _ c.requires c.if-month-lt2.false c.if-leap.false
