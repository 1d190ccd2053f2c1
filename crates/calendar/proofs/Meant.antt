-- The days by number are those that the rules of the calendar mean. Assumes nothing.
use Rattle.numbers.{proofs.Prelude.{ℕ, suc, ◌+◌, ◌-◌, ◌*◌, ◌/◌, ◌%◌, ◌≤◌, ◌<◌, ltb-true, ltb-false, ltb, Bool, true, false, ◌≡◌, refl, sym, ap, ◌∙◌, arith}, specs.Answer.{if◌then◌else◌}}
use Rattle.calendar.proofs.{Laws.{weekday_closed}, Months.{month_more, months_up, month_long, month_short, months_closed, in_january, in_leap, in_common}, Rising.{rises, Between, passes}}
use Rattle.calendar.proofs.{Weeks.{week_apart, count_closed}, Within.{weeks_long, week_back}}
use Rattle.calendar.specs.Calendar.{is_leap, month_length, days_of_years, days_of_months, day_number, weekday_of}
use Rattle.calendar.specs.{Rules.{count_on, WeekdayOf, JulianDay, leap_day, last_on, first_of, weeks_of, day_of, IsMonth}, declared.rule.When.TheVariants.{Julian, Month}}

-- so many days back, the weekday is met
back_on : (weekday day : ℕ) → weekday ≤ 6 → 6 ≤ day → (day - ((day + 1) % 7 + 7 - weekday) % 7 + 1) % 7 ≡ weekday
back_on weekday day h k = omega arith

last_named : (weekday day : ℕ) → weekday ≤ 6 → 6 ≤ day → weekday_of (last_on weekday day) ≡ weekday
unfolding last_on
last_named weekday day h k = weekday_closed _ ∙ rw (weekday_closed day) (back_on weekday day h k)

-- in weeks 1 to 4 no month is too short, in week 5 each is
weeks_some : (test : Bool) (week length : ℕ) → ltb (7 * week) length ≡ test → 28 ≤ length → week ≤ 4 → (if test then 7 * week else length) ≡ 7 * week
weeks_some true week length e k h = refl
weeks_some false week length e k h = omega (arith, ltb-false (7 * week) length e)

weeks_five : (test : Bool) (week length : ℕ) → ltb (7 * week) length ≡ test → length ≤ 31 → week ≡ 5 → (if test then 7 * week else length) ≡ length
weeks_five true week length e k h = absurd (omega (arith, ltb-true (7 * week) length e))
weeks_five false week length e k h = refl

-- of the days before one that are counted from a first, one in seven has its weekday
count_before : (weekday first day : ℕ) → first ≤ day → weekday_of day ≡ weekday → count_on weekday first (day - first) ≡ (day - first) / 7
count_before weekday first day h e = count_closed weekday first ((day - first) % 7) (omega arith) same (day - first) ∙ omega arith where
  same : weekday_of (first + (day - first) % 7) ≡ weekday
  same = (let alike : weekday_of (first + (day - first) % 7) ≡ weekday_of day = omega (arith, weekday_closed day, weekday_closed (first + (day - first) % 7)) in alike) ∙ e

-- M month.week.weekday
module _ (year month week weekday : ℕ) (m : IsMonth month week weekday) where
  named : weekday_of (last_on weekday (first_of year month + weeks_of year month week - 1)) ≡ weekday
  named = last_named weekday _ m.weekday_to (omega (arith, weeks_long year month week weekday m))

  some : week ≤ 4 → weeks_of year month week ≡ 7 * week
  unfolding weeks_of
  some h = weeks_some (ltb (7 * week) (month_length (is_leap (suc year)) month)) week _ refl (month_long _ month m.month_from m.month_to) h

  five : week ≡ 5 → weeks_of year month week ≡ month_length (is_leap (suc year)) month
  unfolding weeks_of
  five h = weeks_five (ltb (7 * week) (month_length (is_leap (suc year)) month)) week _ refl (month_short _ month m.month_from m.month_to) h

  pub month_meant : WeekdayOf (first_of year month) (month_length (is_leap (suc year)) month) week weekday (day_of (Month month week weekday) year)
  unfolding day_of
  month_meant = let back = week_back weekday (first_of year month + weeks_of year month week - 1) in let long = weeks_long year month week weekday m in record {
    inside = record { from = omega arith; to = omega arith };
    named = named;
    counted = λ h. omega (arith, some h, count_before weekday (first_of year month) _ (omega arith) named);
    last = λ h later after within e. omega (arith, five h, within.to, week_apart _ later (named ∙ sym e) after);
  }

-- the leap day is counted from March on
module _ (year step n : ℕ) (few : step ≤ 11) (from : days_of_months false step ≤ n - 1) (to : n - 1 < days_of_months false (suc step)) where
  in_march : 2 ≤ step → 59 ≤ days_of_months false step
  in_march h = omega (arith, rises (days_of_months false) (months_up false) 2 step h, months_closed false 2 (omega arith))

  in_february : step < 2 → days_of_months false (suc step) ≤ 59
  in_february h = omega (arith, rises (days_of_months false) (months_up false) (suc step) 2 (omega arith), months_closed false 2 (omega arith))

  pub leap_counted : (leap early : Bool) → 1 ≤ n → ltb n 60 ≡ early → days_of_months leap step ≡ days_of_months false step + (if leap then (if early then 0 else 1) else 0)
  leap_counted true true k e = let not_march : 2 ≤ step → ⊥ = λ h. omega (arith, in_march h, ltb-true n 60 e) in
      omega (arith, in_january true step (omega arith) (omega arith), in_january false step (omega arith) (omega arith))
  leap_counted true false k e = let not_february : step < 2 → ⊥ = λ h. omega (arith, in_february h, ltb-false n 60 e) in
      omega (arith, in_leap true step (omega arith) (omega arith) refl, in_common false step (omega arith) (omega arith) refl)
  leap_counted false early k e = omega arith

-- J n
module _ (year n : ℕ) (from : 1 ≤ n) (to : n ≤ 365) where
  month_of : Between (days_of_months false) (n - 1)
  unfolding days_of_months
  month_of = passes (days_of_months false) (n - 1) 12 (omega arith) (omega (arith, months_closed false 12 (omega arith)))

  month_few : month_of.step ≤ 11
  month_few =
      let past : 12 ≤ month_of.step → ⊥ = λ h. omega (arith, rises (days_of_months false) (months_up false) 12 month_of.step h, month_of.from, months_closed false 12 (omega arith)) in
      omega arith

  less_one : (k : ℕ) → suc k - 1 ≡ k
  less_one k = omega arith

  same_months : (leap : Bool) → days_of_months leap (suc month_of.step - 1) ≡ days_of_months leap month_of.step
  same_months leap = ap (days_of_months leap) (less_one month_of.step)

  pub julian_meant : JulianDay (suc year) n (day_of (Julian n) year)
  unfolding day_of day_number leap_day
  julian_meant =
      record {
        month = suc month_of.step;
        date = n - days_of_months false month_of.step;
        common = record {
          month_from = omega arith;
          month_to = omega (arith, month_few);
          day_from = omega (arith, month_of.from);
          day_to = omega
              (arith, month_more false (suc month_of.step) (omega arith), month_of.from, month_of.to, same_months false);
        };
        counted = omega (arith, month_of.from, same_months false);
        meant = omega (
          arith,
          month_of.from,
          same_months (is_leap (suc year)),
          ap days_of_years (less_one year),
          leap_counted year month_of.step n month_few month_of.from month_of.to (is_leap (suc year)) (ltb n 60) from refl,
        );
      }
