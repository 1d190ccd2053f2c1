-- The Gregorian calendar, counted day by day. Day 0 is Monday, 1 January of the year 1; 1 January 1970, a Thursday, is day 719162.
use Rattle.std.specs.Prelude.{if◌then◌else◌, ◌+◌, ◌-◌, ◌%◌, ◌≤◌, ◌<◌, ◌∷◌}
use Rattle.numbers.specs.Prelude.{ℕ, zero, suc, eqb, get_or, Bool, List, []}

-- every fourth year is a leap year, but of the full centuries only every fourth
unfoldable pub is_leap : ℕ → Bool
is_leap year = if eqb (year % 100) 0 then eqb (year % 400) 0 else eqb (year % 4) 0

unfoldable pub year_length : ℕ → ℕ
year_length year = if is_leap year then 366 else 365

-- the days of the years from 1 to this one
unfoldable pub days_of_years : ℕ → ℕ
days_of_years zero = 0
days_of_years (suc n) = days_of_years n + year_length (suc n)

-- the months of a leap year or of another, from January
abbrev pub month_lengths : Bool → List ℕ
month_lengths leap = 31 ∷ (if leap then 29 else 28) ∷ 31 ∷ 30 ∷ 31 ∷ 30 ∷ 31 ∷ 31 ∷ 30 ∷ 31 ∷ 30 ∷ 31 ∷ []

-- months are counted from 1
unfoldable pub month_length : Bool → ℕ → ℕ
month_length leap month = get_or (month_lengths leap) (month - 1) 0

-- the days of the months from January to this one
unfoldable pub days_of_months : Bool → ℕ → ℕ
days_of_months leap zero = 0
days_of_months leap (suc n) = days_of_months leap n + month_length leap (suc n)

-- the day number of a date
unfoldable pub day_number : ℕ → ℕ → ℕ → ℕ
day_number year month day = days_of_years (year - 1) + days_of_months (is_leap year) (month - 1) + (day - 1)

-- the day of the week after this one; 0 is Sunday, 6 Saturday
unfoldable pub next_weekday : ℕ → ℕ
next_weekday weekday = if eqb weekday 6 then 0 else suc weekday

-- the weekday of a day: day 0 is a Monday, and one follows the other
unfoldable pub weekday_of : ℕ → ℕ
weekday_of zero = 1
weekday_of (suc day) = next_weekday (weekday_of day)

-- the years that are answered
pub record InRange (year : ℕ) : Type 0 where
  pub from : 1 ≤ year
  pub to : year ≤ 9999

-- the day lies in the year, one of these
pub record InYear (year day : ℕ) : Type 0 where
  pub range : InRange year
  pub begun : days_of_years (year - 1) ≤ day
  pub lasts : day < days_of_years year

-- a month and a day in it, of a leap year or of another
pub record InMonths (leap : Bool) (month day : ℕ) : Type 0 where
  pub month_from : 1 ≤ month
  pub month_to : month ≤ 12
  pub day_from : 1 ≤ day
  pub day_to : day ≤ month_length leap month

-- a date of these years
pub record IsDate (year month day : ℕ) : Type 0 where
  pub range : InRange year
  pub months : InMonths (is_leap year) month day
