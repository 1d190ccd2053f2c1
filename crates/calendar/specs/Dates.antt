-- Dates of days, counted from 0.
use Rattle.std.specs.Prelude.{◌+◌, ◌-◌, ◌≡◌}
use Rattle.numbers.specs.Prelude.{ℕ, Bool}
use Rattle.calendar.specs.Calendar.{days_of_months, day_number, InMonths, IsDate}

-- the month and the day of the month, for a day of the year
pub record PlaceOf (leap : Bool) (place month day : ℕ) : Type 0 where
  pub months : InMonths leap month day
  pub there : days_of_months leap (month - 1) + (day - 1) ≡ place

-- the date that has this day number
pub record DateOf (number year month day : ℕ) : Type 0 where
  pub is : IsDate year month day
  pub numbered : day_number year month day ≡ number
