-- What the calendar promises, by name. Assumes nothing.
use Rattle.numbers.proofs.Prelude.{ℕ, suc, ◌+◌, ◌-◌, ◌%◌, ◌≤◌, ◌<◌, ◌≡◌, sym, ap, subst, ◌∙◌, arith}
use Rattle.calendar.proofs.{Dates.{unique}, Days.{short_year, day_date}, Laws.{weekday_closed, epoch}, Meant.{month_meant, julian_meant}, Rising.{Between, passes}}
use Rattle.calendar.proofs.Unique.{one_weekday, one_julian}
use Rattle.calendar.specs.{Calendar.{is_leap, days_of_years, days_of_months, day_number, month_length, weekday_of}, Dates.{DateOf}, Rules.{first_of, day_of, IsMonth, WeekdayOf, Meant, Only}}
use Rattle.calendar.specs.declared.rule.When.TheVariants.{Julian, Zero, Month}

-- a date, and no other
pub record OneDate (number : ℕ) : Type 0 where
  pub year : ℕ
  pub month : ℕ
  pub day : ℕ
  pub dated : DateOf number year month day
  pub alone : (y m d : ℕ) → DateOf number y m d → (y ≡ year) × (m ≡ month) × (d ≡ day)

-- each day up to the end of 9999 has exactly one date
module _ (number : ℕ) (short : number < days_of_years 9999) where
  years : Between days_of_years number
  unfolding days_of_years
  years = passes days_of_years number 9999 (omega arith) short

  months : Between (days_of_months (is_leap (suc years.step))) (number - days_of_years years.step)
  unfolding days_of_months
  months = passes (days_of_months (is_leap (suc years.step))) (number - days_of_years years.step) 12 (omega arith) (short_year number short years)

  found : DateOf number (suc years.step) (suc months.step) (number - days_of_years years.step - days_of_months (is_leap (suc years.step)) months.step + 1)
  found = day_date number short years months

  pub date_of_day : OneDate number
  date_of_day = record { year = _; month = _; day = _; dated = found; alone = λ y m d p. unique p.is found.is (p.numbered ∙ sym found.numbered) }

-- the first of a month
first_number : (past month : ℕ) → day_number (suc past) month 1 ≡ first_of past month
unfolding day_number first_of
first_number past month = omega (arith, ap days_of_years (let e : suc past - 1 ≡ past = omega arith in e))

-- M month.week.weekday means exactly one day of each year
pub week_day_unique : (past month week weekday : ℕ) → IsMonth month week weekday → Only (Meant (Month month week weekday) past) (day_of (Month month week weekday) past)
unfolding Meant
week_day_unique past month week weekday m =
    subst (λ (first : ℕ). Only (λ day. WeekdayOf first (month_length (is_leap (suc past)) month) week weekday day) (day_of (Month month week weekday) past)) (sym (first_number past month))
    (record { holds = meant; alone = λ other p. one_weekday (first_of past month) (month_length (is_leap (suc past)) month) week weekday other _ m.week_from m.week_to p meant }) where
      meant : WeekdayOf (first_of past month) (month_length (is_leap (suc past)) month) week weekday (day_of (Month month week weekday) past)
      meant = month_meant past month week weekday m

-- so does J n
pub julian_unique : (past n : ℕ) → 1 ≤ n → n ≤ 365 → Only (Meant (Julian n) past) (day_of (Julian n) past)
unfolding Meant
julian_unique past n from to = record { holds = julian_meant past n from to; alone = λ other p. one_julian (suc past) n other _ p (julian_meant past n from to) }

new_year : (past : ℕ) → day_number (suc past) 1 1 ≡ days_of_years past
unfolding first_of days_of_months
new_year past = first_number past 1 ∙ omega arith

-- and n
pub zero_unique : (past n : ℕ) → Only (Meant (Zero n) past) (day_of (Zero n) past)
unfolding Meant day_of
zero_unique past n = record { holds = zero_day; alone = λ other p. p ∙ sym zero_day } where
  zero_day : days_of_years past + n ≡ day_number (suc past) 1 1 + n
  zero_day = omega (arith, new_year past)

-- seven weekdays one after the other, and 1 January 1970 is a Thursday
pub weekday : (day : ℕ) → (weekday_of day ≡ (day + 1) % 7) × (weekday_of (days_of_years 1969) ≡ 4)
weekday day = (weekday_closed day, weekday_closed _ ∙ rw epoch)
