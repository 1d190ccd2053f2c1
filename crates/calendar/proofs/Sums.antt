-- The sums that the code works out. Assumes nothing.
use Rattle.numbers.{proofs.Prelude.{ℕ, suc, ◌+◌, ◌-◌, ◌*◌, ◌≤◌, ◌<◌, lt-ltb, le-ltb, ltb, Bool, true, false, ◌≡◌, sym, ap, ◌∙◌, add-one, arith}, specs.Answer.{if◌then◌else◌}}
use Rattle.calendar.proofs.{Laws.{mean_high}, Months.{month_short, months_up, months_of_year}, Rising.{rises}, Within.{weeks_long}}
use Rattle.calendar.specs.{Calendar.{is_leap, month_length, days_of_years, days_of_months}, Rules.{leap_day, last_on, first_of, weeks_of, day_of, IsMonth, IsWhen}, declared.rule.When.{When}}
use Rattle.calendar.specs.declared.rule.When.TheVariants.{Julian, Zero, Month}

-- the year that follows so many is a leap year, as the code finds
module _ (year : ℕ) {leap : Bool} (kind : leap ≡ is_leap (year + 1)) where
  leap_next : is_leap (suc year) ≡ leap
  leap_next = sym (kind ∙ ap is_leap (add-one year))

  -- the three ways to the leap day
  pub leap_early : (n : ℕ) → leap ≡ true → n < 60 → 0 ≡ leap_day year n
  unfolding leap_day
  leap_early n t h = simp (leap_next ∙ t, lt-ltb n 60 h)

  pub leap_late : (n : ℕ) → leap ≡ true → 60 ≤ n → 1 ≡ leap_day year n
  unfolding leap_day
  leap_late n t h = simp (leap_next ∙ t, le-ltb n 60 h)

  pub leap_never : (n : ℕ) → leap ≡ false → 0 ≡ leap_day year n
  unfolding leap_day
  leap_never n t = simp (leap_next ∙ t)

  pub first_sum : (month : ℕ) {days months : ℕ} → days ≡ days_of_years year → months ≡ days_of_months leap (month - 1) → days + months ≡ first_of year month
  unfolding first_of
  first_sum month p q = rw (p, q, leap_next)

  -- the two ways to the weeks of a month
  pub weeks_all : (month week : ℕ) {length : ℕ} → length ≡ month_length leap month → 7 * week < length → 7 * week ≡ weeks_of year month week
  unfolding weeks_of
  weeks_all month week p h = simp (leap_next, lt-ltb (7 * week) (month_length leap month) (rw p at h))

  pub weeks_cut : (month week : ℕ) {length : ℕ} → length ≡ month_length leap month → length ≤ 7 * week → length ≡ weeks_of year month week
  unfolding weeks_of
  weeks_cut month week p h = p ∙ simp (leap_next, le-ltb (7 * week) (month_length leap month) (rw p at h))

months_few : (leap : Bool) → (if leap then 366 else 365) ≤ 366
months_few true = omega arith
months_few false = omega arith

-- the days up to these years are few
pub days_few : (year : ℕ) → year ≤ 11000 → days_of_years year ≤ 4100000
days_few year h = omega (arith, mean_high year)

pub first_few : (year month : ℕ) → year ≤ 11000 → month ≤ 12 → first_of year month ≤ 4100366
unfolding first_of
first_few year month h k = omega
    (arith, days_few year h, rises (days_of_months (is_leap (suc year))) (months_up _) (month - 1) 12 (omega arith), months_of_year (is_leap (suc year)), months_few (is_leap (suc year)))

pub weeks_few : (year month week weekday : ℕ) → IsMonth month week weekday → (7 ≤ weeks_of year month week) × (weeks_of year month week ≤ 31)
weeks_few year month week weekday m = omega (arith, weeks_long year month week weekday m, month_short (is_leap (suc year)) month m.month_from m.month_to)

pub leap_few : (year n : ℕ) → leap_day year n ≤ 1
unfolding leap_day
leap_few year n = few (is_leap (suc year)) (ltb n 60) where
  few : (leap early : Bool) → (if leap then (if early then 0 else 1) else 0) ≤ 1
  few true true = omega arith
  few true false = omega arith
  few false early = omega arith

pub month_sum : (year month week weekday : ℕ) {first weeks day : ℕ} → first ≡ first_of year month → weeks ≡ weeks_of year month week → day ≡ last_on weekday (first + weeks - 1) →
    day ≡ day_of (Month month week weekday) year
unfolding day_of
month_sum year month week weekday p q e = rw (p, q) at e

-- the three ways to the day that is meant
module _ {when : When} where
  pub julian_is : (n : ℕ) → when ≡ Julian n → IsWhen when → (1 ≤ n) × (n ≤ 365)
  unfolding IsWhen
  julian_is n e w = rw e at w

  pub zero_is : (n : ℕ) → when ≡ Zero n → IsWhen when → n ≤ 365
  unfolding IsWhen
  zero_is n e w = rw e at w

  pub month_is : (month week weekday : ℕ) → when ≡ Month month week weekday → IsWhen when → IsMonth month week weekday
  unfolding IsWhen
  month_is month week weekday e w = rw e at w

  pub julian_sum : (year n : ℕ) {days leap : ℕ} → when ≡ Julian n → days ≡ days_of_years year → leap ≡ leap_day year n → days + (n - 1) + leap ≡ day_of when year
  unfolding day_of
  julian_sum year n e p q = rw (e, p, q)

  pub zero_sum : (year n : ℕ) {days : ℕ} → when ≡ Zero n → days ≡ days_of_years year → days + n ≡ day_of when year
  unfolding day_of
  zero_sum year n e p = rw (e, p)

  pub month_day_sum : (year month week weekday : ℕ) {day : ℕ} → when ≡ Month month week weekday → day ≡ day_of (Month month week weekday) year → day ≡ day_of when year
  month_day_sum year month week weekday e p = rw e p
