-- `calendar::date::date_at` meets its contract: the year, and the place in it, make the date.
use Rattle.calendar.proofs.{Dates.{place_short, placed_date}}
use Rattle.calendar.proofs.date.date_at.Goals as goal

pub month_at-at-requires : goal.month_at-at-requires
month_at-at-requires c =
    place_short c.year_at-year.ensures c.days_of_years.ensures c.is_leap.ensures

pub returns : goal.returns
returns c =
    placed_date c.year_at-year.ensures c.days_of_years.ensures c.is_leap.ensures c.month_at-at.ensures
