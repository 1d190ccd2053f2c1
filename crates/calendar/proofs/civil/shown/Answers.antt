-- `calendar::civil::shown` meets its contract: the date of the day, and the second of the day in hours, minutes and seconds.
use Rattle.calendar.proofs.civil.{Clock.{day_short, shows}}
use Rattle.calendar.proofs.civil.shown.Goals as goal

pub date_at-date-requires : goal.date_at-date-requires
date_at-date-requires c =
    day_short _ _ c.requires
