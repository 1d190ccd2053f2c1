-- The days of the months in closed form, and how they go on. Assumes nothing.
use Rattle.numbers.{proofs.Prelude.{ℕ, zero, suc, ◌+◌, ◌-◌, ◌*◌, ◌/◌, ◌≤◌, ◌<◌, lt-ltb, le-ltb, eqb, ltb, leb, get_or, Bool, true, false, ◌≡◌, refl, sym, ap, ◌∙◌, arith}, specs.Answer.{if◌then◌else◌}}
use lib.Dec.{eqb→eq, leb→le}
use native.Mathlib.Numerals.{sub-one}
use Rattle.calendar.proofs.Below.{below}
use Rattle.calendar.specs.{Calendar.{is_leap, year_length, days_of_years, month_lengths, month_length, days_of_months}, Dates.{PlaceOf}}

-- the days of the months from January to this one, in closed form
abbrev pub closed_months : Bool → ℕ → ℕ
closed_months leap n = (367 * n + 5) / 12 - (if ltb n 2 then 0 else if leap then 1 else 2)

pub months_closed : (leap : Bool) (n : ℕ) → n ≤ 12 → days_of_months leap n ≡ closed_months leap n
unfolding days_of_months month_length
months_closed true n h = eqb→eq _ _ (below (λ k. eqb (days_of_months true k) (closed_months true k)) 13 tt n (omega arith))
months_closed false n h = eqb→eq _ _ (below (λ k. eqb (days_of_months false k) (closed_months false k)) 13 tt n (omega arith))

-- a month more adds its length
pub month_more : (leap : Bool) (month : ℕ) → 1 ≤ month → days_of_months leap month ≡ days_of_months leap (month - 1) + month_length leap month
unfolding days_of_months
month_more leap zero h = absurd (omega arith)
month_more leap (suc n) h = rw sub-one

pub months_up : (leap : Bool) (n : ℕ) → days_of_months leap n ≤ days_of_months leap (suc n)
unfolding days_of_months
months_up leap n = omega arith

-- a year is its twelve months
pub months_of_year : (leap : Bool) → days_of_months leap 12 ≡ (if leap then 366 else 365)
unfolding days_of_months month_length
months_of_year true = refl
months_of_year false = refl

-- a year more adds its twelve months
pub year_more : (year : ℕ) → 1 ≤ year → days_of_years year ≡ days_of_years (year - 1) + days_of_months (is_leap year) 12
unfolding days_of_years year_length
year_more zero h = absurd (omega arith)
year_more (suc n) h = rw (sub-one, months_of_year)

-- the three ways of the closed form
module _ (leap : Bool) (n : ℕ) (few : n ≤ 12) where
  pub in_january : n < 2 → (367 * n + 5) / 12 ≡ days_of_months leap n
  in_january h = sym (months_closed leap n few ∙ simp (lt-ltb n 2 h) (omega arith))

  pub in_leap : 2 ≤ n → leap ≡ true → (367 * n + 5) / 12 - 1 ≡ days_of_months leap n
  in_leap h e = sym (months_closed leap n few ∙ simp (le-ltb n 2 h, e))

  pub in_common : 2 ≤ n → leap ≡ false → (367 * n + 5) / 12 - 2 ≡ days_of_months leap n
  in_common h e = sym (months_closed leap n few ∙ simp (le-ltb n 2 h, e))

-- looking for the month of a day of the year
module _ (leap : Bool) (place month : ℕ) (from : 1 ≤ month) (to : month ≤ 12) where
  -- December is not passed
  pub not_last : place < days_of_months leap 12 → days_of_months leap month ≤ place → month < 12
  not_last h k = let other : month ≡ 12 → ⊥ = λ e. omega (arith, ap (days_of_months leap) e) in omega arith

  pub placed : days_of_months leap (month - 1) ≤ place → place < days_of_months leap month → PlaceOf leap place month (place - days_of_months leap (month - 1) + 1)
  placed h k =
      record { months = record { month_from = from; month_to = to; day_from = omega arith; day_to = omega (arith, month_more leap month from) }; there = omega arith }

-- a month has 28 to 31 days
pub month_long : (leap : Bool) (month : ℕ) → 1 ≤ month → month ≤ 12 → 28 ≤ month_length leap month
unfolding month_length
month_long true month h k = leb→le _ _ (below (λ n. leb 28 (get_or (month_lengths true) n 0)) 12 tt (month - 1) (omega arith))
month_long false month h k = leb→le _ _ (below (λ n. leb 28 (get_or (month_lengths false) n 0)) 12 tt (month - 1) (omega arith))

pub month_short : (leap : Bool) (month : ℕ) → 1 ≤ month → month ≤ 12 → month_length leap month ≤ 31
unfolding month_length
month_short true month h k = leb→le _ _ (below (λ n. leb (get_or (month_lengths true) n 0) 31) 12 tt (month - 1) (omega arith))
month_short false month h k = leb→le _ _ (below (λ n. leb (get_or (month_lengths false) n 0) 31) 12 tt (month - 1) (omega arith))
