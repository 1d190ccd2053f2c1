-- The date and the time of day that a clock shows, so many seconds east of UT.
use Rattle.std.specs.Prelude.{Option, Some, None, if◌then◌else◌, ◌+◌, ◌-◌, ◌*◌, ◌/◌, ◌%◌, ◌≤◌, ◌+ℤ◌, ◌≡◌}
use Rattle.numbers.specs.Prelude.{ℕ, zero, suc, ltb, leb, ℤ, pos, negsuc, Bool}
use Rattle.calendar.specs.{Calendar.{is_leap, days_of_years, days_of_months, day_number, weekday_of, IsDate}, Moments.{seconds_to, instant_of, MomentOf}}
use Rattle.calendar.specs.declared.civil.Reading.{Reading}

-- what the clock shows at an instant of its own
pub record Shows (local : ℤ) (reading : Reading) : Type 0 where
  pub date : IsDate reading.year reading.month reading.day
  pub hour : reading.hour ≤ 23
  pub minute : reading.minute ≤ 59
  pub second : reading.second ≤ 59
  pub weekday : reading.weekday ≡ weekday_of (day_number reading.year reading.month reading.day)
  -- its day and its seconds give the instant back
  pub back : instant_of (day_number reading.year reading.month reading.day) (3600 * reading.hour + 60 * reading.minute + reading.second) ≡ local

-- what the clock shows, or it is outside the years 1 to 9999
unfoldable pub CivilOf : ℤ → ℤ → Option Reading → Type 0
CivilOf instant offset (Some reading) = Shows (instant +ℤ offset) reading
CivilOf instant offset None = MomentOf (instant +ℤ offset) None

-- ---- the same as a function
-- the last step, of at most so many, whose count is not above a number
unfoldable pub last_up_to : (ℕ → ℕ) → ℕ → ℕ → ℕ
last_up_to count x zero = 0
last_up_to count x (suc k) = if leb (count (suc k)) x then suc k else last_up_to count x k

-- the years that have ended by a day, and the months of its year
unfoldable pub years_by : ℕ → ℕ
years_by day = last_up_to days_of_years day 9998

unfoldable pub months_by : Bool → ℕ → ℕ
months_by leap place = last_up_to (days_of_months leap) place 11

-- what the clock shows at a second of a day: the year and the month behind those that have ended
unfoldable pub reading_of : ℕ → ℕ → Reading
reading_of day second =
    let years = years_by day in
    let place = day - days_of_years years in
    let months = months_by (is_leap (suc years)) place in
    record {
      year = suc years;
      month = suc months;
      day = place - days_of_months (is_leap (suc years)) months + 1;
      hour = second / 3600;
      minute = second / 60 % 60;
      second = second % 60;
      weekday = weekday_of day;
    }

-- so many seconds from the start of the year 1; none before it
unfoldable pub reading_at : ℤ → Option Reading
reading_at (pos seconds) = if ltb (seconds / 86400) (days_of_years 9999) then Some (reading_of (seconds / 86400) (seconds % 86400)) else None
reading_at (negsuc seconds) = None

-- what the clock shows at an instant, so many seconds east of UT: `CivilOf`'s one answer (`is_civil_at`)
unfoldable pub civil_at : ℤ → ℤ → Option Reading
civil_at instant offset = reading_at (instant +ℤ offset +ℤ pos (seconds_to (days_of_years 1969) 0))
