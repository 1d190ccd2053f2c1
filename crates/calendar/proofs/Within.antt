-- A day comes later in each year than in the one before, and lies in the year or on the day after it. Assumes nothing.
use Rattle.numbers.{proofs.Prelude.{ℕ, suc, ◌+◌, ◌-◌, ◌*◌, ◌≤◌, ◌<◌, ltb-true, ltb, Bool, true, false, ◌≡◌, refl, arith}, specs.Answer.{if◌then◌else◌}}
use Rattle.calendar.proofs.{Months.{month_long, month_more, months_up, months_of_year}, Rising.{rises}}
use Rattle.calendar.specs.{Calendar.{is_leap, year_length, month_length, days_of_years, days_of_months}, Rules.{leap_day, last_on, first_of, weeks_of, day_of, IsMonth, IsWhen}, declared.rule.When.{When}}
use Rattle.calendar.specs.declared.rule.When.TheVariants.{Julian, Zero, Month}

-- the length of a year, by cases
length_cases : (leap : Bool) → (365 ≤ (if leap then 366 else 365)) × ((if leap then 366 else 365) ≤ 366)
length_cases true = omega arith
length_cases false = omega arith

pub year_longer : (n : ℕ) → days_of_years n + 365 ≤ days_of_years (suc n)
unfolding days_of_years year_length
year_longer n = omega (arith, length_cases (is_leap (suc n)))

-- the leap day, by cases
leap_cases : (leap late : Bool) → (if leap then (if late then 0 else 1) else 0) + 365 ≤ (if leap then 366 else 365)
leap_cases true true = omega arith
leap_cases true false = omega arith
leap_cases false late = omega arith

julian_short : (n year : ℕ) → 1 ≤ n → n ≤ 365 → days_of_years year + (n - 1) + leap_day year n < days_of_years (suc year)
unfolding days_of_years year_length leap_day
julian_short n year from to = omega (arith, leap_cases (is_leap (suc year)) (ltb n 60))

-- the last weekday up to a day is in the week up to it
pub week_back : (weekday day : ℕ) → (day ≤ last_on weekday day + 6) × (last_on weekday day ≤ day)
unfolding last_on
week_back weekday day = omega arith

-- the weeks of a month are a week or more, and no longer than the month
weeks_cases : (test : Bool) (weeks length : ℕ) → ltb weeks length ≡ test → 7 ≤ weeks → 28 ≤ length → (7 ≤ (if test then weeks else length)) × ((if test then weeks else length) ≤ length)
weeks_cases true weeks length e h k = (h, omega (arith, ltb-true weeks length e))
weeks_cases false weeks length e h k = omega arith

module _ (year month week weekday : ℕ) (m : IsMonth month week weekday) where
  pub weeks_long : (7 ≤ weeks_of year month week) × (weeks_of year month week ≤ month_length (is_leap (suc year)) month)
  unfolding weeks_of
  weeks_long = weeks_cases _ (7 * week) _ refl (omega (arith, m.week_from)) (month_long _ month m.month_from m.month_to)

  months_short : days_of_months (is_leap (suc year)) (month - 1) + month_length (is_leap (suc year)) month ≤ year_length (suc year)
  unfolding year_length
  months_short = omega (arith, month_more (is_leap (suc year)) month m.month_from, rises (days_of_months (is_leap (suc year))) (months_up _) month 12 m.month_to, months_of_year (is_leap (suc year)))

  year_end : days_of_years (suc year) ≡ days_of_years year + year_length (suc year)
  unfolding days_of_years
  year_end = refl

  pub month_day : (days_of_years year ≤ day_of (Month month week weekday) year) × (day_of (Month month week weekday) year < days_of_years (suc year))
  unfolding day_of first_of
  month_day = let back = week_back weekday (first_of year month + weeks_of year month week - 1) in omega (arith, weeks_long, months_short, year_end)

-- the day is in the year, or the day after its last
pub day_from : (when : When) (year : ℕ) → IsWhen when → days_of_years year ≤ day_of when year
unfolding day_of IsWhen
day_from (Julian n) year w = omega arith
day_from (Zero n) year w = omega arith
day_from (Month month week weekday) year w = (month_day year month week weekday w).0

pub day_to : (when : When) (year : ℕ) → IsWhen when → day_of when year ≤ days_of_years (suc year)
unfolding day_of IsWhen
day_to (Julian n) year w = omega (arith, julian_short n year w.0 w.1)
day_to (Zero n) year w = omega (arith, year_longer year)
day_to (Month month week weekday) year w = omega (arith, month_day year month week weekday w)

pub day_up : (when : When) (year : ℕ) → IsWhen when → day_of when year ≤ day_of when (suc year)
day_up when year w = omega (arith, day_to when year w, day_from when (suc year) w)
