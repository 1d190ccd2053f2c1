-- What a clock shows, as a function: it is the one answer. Assumes nothing.
use Rattle.numbers.proofs.Prelude.{ℕ, zero, suc, ◌+◌, ◌-◌, ◌*◌, ◌/◌, ◌%◌, ◌≤◌, ◌<◌, leb-true, ltb-true, ltb-false, leb-false, ltb, leb, ℤ, pos, negsuc, ◌+ℤ◌, ◌-ℤ◌, nat_abs, Bool, true, false, ◌≡◌}
use Rattle.numbers.{proofs.Prelude.{refl, sym, ap, subst, ◌∙◌, arith}, specs.Answer.{if◌then◌else◌}}
use lib.IntN.{+ℤ-neg_ℤ_cancel}
use Rattle.calendar.proofs.{Days.{short_year, day_date}, Laws.{days_in_all, epoch}, Rising.{Between}, SameCivil.{same_civil}, civil.Clock.{shows}, moment.Shift.{day_second, seconds_of}}
use Rattle.calendar.specs.{Calendar.{is_leap, days_of_years, days_of_months}, Civil.{last_up_to, years_by, months_by, reading_of, reading_at, civil_at, Shows, CivilOf}}
use Rattle.calendar.specs.{Moments.{seconds_to, instant_of, MomentOf}, declared.civil.Reading.{Reading}}
use Rattle.std.specs.Prelude.{Option, Some, None}

-- 1970 begins so many seconds after the year 1
epoch_seconds : 62135596800 ≡ seconds_to (days_of_years 1969) 0
unfolding seconds_to
epoch_seconds = omega (arith, epoch)

-- the last step up to a number is where it is passed
last_from : (f : ℕ → ℕ) (x k : ℕ) → f 0 ≤ x → f (last_up_to f x k) ≤ x
unfolding last_up_to
last_from f x zero h = h
last_from f x (suc k) h = here (leb (f (suc k)) x) refl (last_from f x k h) where
  here : (t : Bool) → leb (f (suc k)) x ≡ t → f (last_up_to f x k) ≤ x → f (if t then suc k else last_up_to f x k) ≤ x
  here true e earlier = leb-true (f (suc k)) x e
  here false e earlier = earlier

last_to : (f : ℕ → ℕ) (x k : ℕ) → x < f (suc k) → x < f (suc (last_up_to f x k))
unfolding last_up_to
last_to f x zero h = h
last_to f x (suc k) h = here (leb (f (suc k)) x) refl (last_to f x k) where
  here : (t : Bool) → leb (f (suc k)) x ≡ t → (x < f (suc k) → x < f (suc (last_up_to f x k))) → x < f (suc (if t then suc k else last_up_to f x k))
  here true e earlier = h
  here false e earlier = earlier (leb-false (f (suc k)) x e)

last_between : (f : ℕ → ℕ) (x k : ℕ) → f 0 ≤ x → x < f (suc k) → Between f x
last_between f x k h t = record { step = last_up_to f x k; from = last_from f x k h; to = last_to f x k t }

-- the years and the months that have ended by a day of these years
module _ (day : ℕ) (short : day < days_of_years 9999) where
  years : Between days_of_years day
  unfolding days_of_years
  years = last_between days_of_years day 9998 (omega arith) short

  months : Between (days_of_months (is_leap (suc years.step))) (day - days_of_years years.step)
  unfolding days_of_months
  months = last_between (days_of_months (is_leap (suc years.step))) (day - days_of_years years.step) 11 (omega arith) (short_year day short years)

  -- the reading is what the clock shows
  reading_shows : (second : ℕ) → second < 86400 → Shows (instant_of day second) (reading_of day second)
  unfolding reading_of years_by months_by years months last_between
  reading_shows second h = shows day second (record { day_to = short; second_to = h }) (day_date day short years months) refl

-- by the seconds from the start of the year 1
at_seconds : (local since : ℤ) → local +ℤ pos 62135596800 ≡ since → (instant offset : ℤ) → instant +ℤ offset ≡ local → CivilOf instant offset (reading_at since)
unfolding CivilOf reading_at MomentOf
at_seconds local (pos n) e instant offset is = here (ltb (n / 86400) (days_of_years 9999)) refl where
  back : pos n -ℤ pos 62135596800 ≡ local
  back = ap (λ (s : ℤ). s -ℤ pos 62135596800) (sym e) ∙ +ℤ-neg_ℤ_cancel local (pos 62135596800)

  here : (t : Bool) → ltb (n / 86400) (days_of_years 9999) ≡ t → CivilOf instant offset (if t then Some (reading_of (n / 86400) (n % 86400)) else None)
  here true d = let there = day_second local n (omega (arith, ltb-true (n / 86400) (days_of_years 9999) d, days_in_all)) back in
      subst (λ (z : ℤ). Shows z (reading_of (n / 86400) (n % 86400))) (there.1 ∙ sym is) (reading_shows (n / 86400) (ltb-true (n / 86400) (days_of_years 9999) d) (n % 86400) (omega arith))
  here false d = λ day second i m. let same : pos n ≡ pos (86400 * day + second) = sym e ∙ seconds_of local day second (m ∙ is) in
      omega (arith, ltb-false (n / 86400) (days_of_years 9999) d, i.day_to, i.second_to, ap nat_abs same)
at_seconds local (negsuc n) e instant offset is = λ day second i m. let same : negsuc n ≡ pos (86400 * day + second) = sym e ∙ seconds_of local day second (m ∙ is) in
    let z : ◌≡◌ {A = ℕ} 0 1 = cc in omega arith

-- the function's answer is one that the clock may give
pub civil_at_is : (instant offset : ℤ) → CivilOf instant offset (civil_at instant offset)
unfolding civil_at seconds_to
civil_at_is instant offset = at_seconds (instant +ℤ offset) _ (ap (λ (n : ℕ). instant +ℤ offset +ℤ pos n) epoch_seconds) instant offset refl

-- and so the only one
pub is_civil_at : (instant offset : ℤ) (c : Option Reading) → CivilOf instant offset c → c ≡ civil_at instant offset
is_civil_at instant offset c h = same_civil instant offset c (civil_at instant offset) h (civil_at_is instant offset)
