-- The day that a rule of a TZ string means in a year. A year is told by how many come before it: the year 1 by 0.
use Rattle.std.specs.Prelude.{if◌then◌else◌, ◌+◌, ◌-◌, ◌*◌, ◌%◌, ◌≤◌, ◌<◌, ◌≡◌}
use Rattle.numbers.specs.Prelude.{ℕ, zero, suc, eqb, ltb, false}
use Rattle.calendar.specs.{Calendar.{is_leap, month_length, days_of_years, days_of_months, day_number, weekday_of, InMonths}, declared.rule.When.{When, TheVariants.{Julian, Zero, Month}}}

-- the leap day, where the n-th day of a year without it comes after it
unfoldable pub leap_day : ℕ → ℕ → ℕ
leap_day past n = if is_leap (suc past) then (if ltb n 60 then 0 else 1) else 0

-- the last day up to this one that has a weekday
unfoldable pub last_on : ℕ → ℕ → ℕ
last_on weekday day = day - (weekday_of day + 7 - weekday) % 7

-- the first day of a month
unfoldable pub first_of : ℕ → ℕ → ℕ
first_of past month = days_of_years past + days_of_months (is_leap (suc past)) (month - 1)

-- the first so many weeks of a month, in days, or all the month if it is shorter
unfoldable pub weeks_of : ℕ → ℕ → ℕ → ℕ
weeks_of past month week = if ltb (7 * week) (month_length (is_leap (suc past)) month) then 7 * week else month_length (is_leap (suc past)) month

-- the day that is meant: J n, which never counts 29 February; n days after 1 January; M month.week.weekday
unfoldable pub day_of : When → ℕ → ℕ
day_of (Julian n) past = days_of_years past + (n - 1) + leap_day past n
day_of (Zero n) past = days_of_years past + n
day_of (Month month week weekday) past = last_on weekday (first_of past month + weeks_of past month week - 1)

-- the numbers of a rule M
pub record IsMonth (month week weekday : ℕ) : Type 0 where
  pub month_from : 1 ≤ month
  pub month_to : month ≤ 12
  pub week_from : 1 ≤ week
  pub week_to : week ≤ 5
  pub weekday_to : weekday ≤ 6

-- the numbers are in their ranges
unfoldable pub IsWhen : When → Type 0
IsWhen (Julian n) = (1 ≤ n) × (n ≤ 365)
IsWhen (Zero n) = n ≤ 365
IsWhen (Month month week weekday) = IsMonth month week weekday

-- What POSIX says of the same days, one by one: `Meant`.

-- how many of so many days from a first one on have this weekday
unfoldable pub count_on : ℕ → ℕ → ℕ → ℕ
count_on weekday first zero = 0
count_on weekday first (suc n) = count_on weekday first n + (if eqb (weekday_of (first + n)) weekday then 1 else 0)

-- the day is one of so many from a first one on
pub record Within (first length day : ℕ) : Type 0 where
  pub from : first ≤ day
  pub to : day < first + length

-- of the days of a month, by its first and its length, the week-th that has this weekday; in week 5 the last
pub record WeekdayOf (first length week weekday day : ℕ) : Type 0 where
  pub inside : Within first length day
  pub named : weekday_of day ≡ weekday
  -- weeks 1 to 4: with those before it in the month it makes so many
  pub counted : week ≤ 4 → count_on weekday first (day - first) + 1 ≡ week
  -- week 5: no later day of the month has the weekday
  pub last : week ≡ 5 → (later : ℕ) → day < later → Within first length later → weekday_of later ≡ weekday → ⊥

-- the date that in a year without 29 February is the n-th day, from 1
pub record JulianDay (year n day : ℕ) : Type 0 where
  pub month : ℕ
  pub date : ℕ
  pub common : InMonths false month date
  pub counted : days_of_months false (month - 1) + date ≡ n
  pub meant : day ≡ day_number year month date

-- the day that a rule means, as POSIX has it; day 365 of a common year is 1 January of the next
unfoldable pub Meant : When → ℕ → ℕ → Type 0
Meant (Julian n) past day = JulianDay (suc past) n day
Meant (Zero n) past day = day ≡ day_number (suc past) 1 1 + n
Meant (Month month week weekday) past day = WeekdayOf (day_number (suc past) month 1) (month_length (is_leap (suc past)) month) week weekday day

-- one day and no other
pub record Only (P : ℕ → Type 0) (day : ℕ) : Type 0 where
  pub holds : P day
  pub alone : (other : ℕ) → P other → other ≡ day
