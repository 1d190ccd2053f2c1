-- A date lies in its year, and no other date has its day number. Assumes nothing.
use Rattle.numbers.proofs.Prelude.{ℕ, suc, ◌+◌, ◌-◌, ◌≤◌, ◌<◌, Bool, ◌≡◌, sym, ap, ◌∙◌, arith}
use Rattle.calendar.proofs.{Laws.{days_in_all}, Months.{month_more, months_up, year_more}, Rising.{rises, between}}
use Rattle.calendar.specs.{Calendar.{is_leap, days_of_years, days_of_months, day_number, InMonths, InYear, IsDate}, Dates.{PlaceOf, DateOf}}

pub years_up : (n : ℕ) → days_of_years n ≤ days_of_years (suc n)
unfolding days_of_years
years_up n = omega arith

-- the place of a day in its year, counted from 0
unfoldable pub place : Bool → ℕ → ℕ → ℕ
place leap month day = days_of_months leap (month - 1) + (day - 1)

module _ (leap : Bool) (month day : ℕ) (m : InMonths leap month day) where
  in_month : place leap month day < days_of_months leap month
  unfolding place
  in_month = omega (arith, month_more leap month m.month_from)

  in_year : place leap month day < days_of_months leap 12
  in_year = omega (arith, in_month, rises (days_of_months leap) (months_up leap) month 12 m.month_to)

-- what the code works out: whether the year is a leap year, the days before it, and the place of the day in it
module _ {year number days : ℕ} {leap : Bool} (y : InYear year number) (before : days ≡ days_of_years (year - 1)) (kind : leap ≡ is_leap year) where
  -- the place is in the year
  pub place_short : number - days < days_of_months leap 12
  place_short = rw kind (omega (arith, y.begun, y.lasts, year_more year y.range.from))

  -- with its month and day it is the date
  pub placed_date : {month day : ℕ} → PlaceOf leap (number - days) month day → DateOf number year month day
  unfolding day_number
  placed_date p = record { is = record { range = y.range; months = rw (← kind) p.months }; numbered = rw (← kind) (omega (arith, p.there, y.begun)) }

module _ {year month day : ℕ} (date : IsDate year month day) where
  pub dated : InYear year (day_number year month day)
  unfolding day_number place
  dated = record { range = date.range; begun = omega arith; lasts = omega (arith, in_year (is_leap year) month day date.months, year_more year date.range.from) }

  -- no date is past the end of 9999
  pub number_short : day_number year month day < 3652059
  number_short = omega (arith, dated.lasts, rises days_of_years years_up year 9999 date.range.to, days_in_all)

-- the day of the year tells month and day
pub same_month : (leap : Bool) (m d m' d' : ℕ) → InMonths leap m d → InMonths leap m' d' → place leap m d ≡ place leap m' d' → (m ≡ m') × (d ≡ d')
unfolding place
same_month leap m d m' d' p q e = (months, omega (arith, ap (λ (n : ℕ). days_of_months leap (n - 1)) months)) where
  months : m ≡ m'
  months =
      between (days_of_months leap) (months_up leap) (place leap m d) m m' p.month_from q.month_from (omega arith) (in_month leap m d p) (omega arith) (omega (arith, in_month leap m' d' q))

same_year : (y m d m' d' : ℕ) → IsDate y m d → IsDate y m' d' → day_number y m d ≡ day_number y m' d' → (m ≡ m') × (d ≡ d')
unfolding day_number place
same_year y m d m' d' p q e = same_month (is_leap y) m d m' d' p.months q.months (omega arith)

-- a day number is that of one date only
pub unique : {y m d y' m' d' : ℕ} → IsDate y m d → IsDate y' m' d' → day_number y m d ≡ day_number y' m' d' → (y ≡ y') × (m ≡ m') × (d ≡ d')
unique {y} {m} {d} {y'} {m'} {d'} p q e = (years, months.0, months.1) where
  years : y ≡ y'
  years = between days_of_years years_up (day_number y m d) y y' p.range.from q.range.from (dated p).begun (dated p).lasts (rw e (dated q).begun) (rw e (dated q).lasts)

  months : (m ≡ m') × (d ≡ d')
  months = same_year y m d m' d' p (rw years q) (e ∙ sym (ap (λ (n : ℕ). day_number n m' d') years))
