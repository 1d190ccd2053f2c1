-- A clock that is ahead by an i32: where its instant lies, and what it shows. Assumes nothing.
use Rattle.numbers.proofs.Prelude.{ℕ, suc, ◌+◌, ◌-◌, ◌*◌, ◌/◌, ◌%◌, ◌^◌, ◌<◌, lt-ltb, le-ltb, ltb-true, ltb-false, ltb, ℤ, pos, negsuc, ◌+ℤ◌, mag, lt_z, Bool, true, false, cond, ◌≡◌, refl, sym, ap}
use Rattle.numbers.proofs.Prelude.{subst, ◌∙◌, w32, w64, SFits, of_z, to_z, to_z-of_z, arith}
use Rattle.calendar.proofs.{Laws.{days_in_all}, moment.Shift.{before, after}}
use Rattle.calendar.specs.{Calendar.{weekday_of}, Civil.{Shows, CivilOf}, Dates.{DateOf}, Moments.{instant_of, InDays, MomentOf}, declared.{civil.Reading.{Reading}, moment.Moment.{Moment}}}
use Rattle.std.specs.Prelude.{Option, Some, None}

-- from far before the year 1 no i32 leads into it
stays_before : (b o : ℤ) → mag o < 2147483648 → lt_z b (negsuc 69999999999) ≡ true → lt_z (b +ℤ o) (negsuc 62135596799) ≡ true
stays_before (pos n) o h k = let z : ◌≡◌ {A = ℕ} 0 1 = cc in absurd (omega arith)
stays_before (negsuc n) (pos m) h k = let far : 69999999999 < n = ltb-true 69999999999 n k in
    simp (lt-ltb m (suc n) (omega arith)) (lt-ltb 62135596799 (suc n - suc m) (omega arith))
stays_before (negsuc n) (negsuc m) h k = lt-ltb 62135596799 (suc (n + m)) (omega (arith, ltb-true 69999999999 n k))

-- nor back from far after 9999
stays_after : (b o : ℤ) → mag o < 2147483648 → lt_z (pos 260000000000) b ≡ true → lt_z (pos 253402300799) (b +ℤ o) ≡ true
stays_after (negsuc n) o h k = let z : ◌≡◌ {A = ℕ} 0 1 = cc in absurd (omega arith)
stays_after (pos n) (pos m) h k = lt-ltb 253402300799 (n + m) (omega (arith, ltb-true 260000000000 n k))
stays_after (pos n) (negsuc m) h k = let far : 260000000000 < n = ltb-true 260000000000 n k in
    simp (le-ltb n (suc m) (omega arith)) (lt-ltb 253402300799 (n - suc m) (omega arith))

either : (t : Bool) (x y : ℕ) → x < 2 ^ 63 → y < 2 ^ 63 → mag (cond t (negsuc x) (pos y)) < 2 ^ 63
either true x y h k = h
either false x y h k = k

-- between the two the sum fits
near_sum : (b o : ℤ) → mag o < 2147483648 → lt_z b (negsuc 69999999999) ≡ false → lt_z (pos 260000000000) b ≡ false → SFits w64 (b +ℤ o)
near_sum (pos n) (pos m) h k l = record { sfits = omega (arith, ltb-false 260000000000 n l) }
near_sum (pos n) (negsuc m) h k l = record { sfits = either (ltb n (suc m)) (suc m - suc n) (n - suc m) (omega arith) (omega (arith, ltb-false 260000000000 n l)) }
near_sum (negsuc n) (pos m) h k l = record { sfits = either (ltb m (suc n)) (suc n - suc m) (m - suc n) (omega (arith, ltb-false 69999999999 n k)) (omega arith) }
near_sum (negsuc n) (negsuc m) h k l = record { sfits = omega (arith, ltb-false 69999999999 n k) }

-- what the machine works out, whose numbers read back as themselves
module _ (instant offset b : ℤ) (same : b ≡ instant) (fits : SFits w32 offset) where
  pub too_early : lt_z b (negsuc 69999999999) ≡ true → MomentOf (instant +ℤ offset) None
  too_early h = before _ _ refl (stays_before instant offset fits.sfits (rw same at h))

  pub too_late : lt_z (pos 260000000000) b ≡ true → MomentOf (instant +ℤ offset) None
  too_late h = after _ _ refl (stays_after instant offset fits.sfits (rw same at h))

  pub near_fits : lt_z b (negsuc 69999999999) ≡ false → lt_z (pos 260000000000) b ≡ false → SFits w64 (instant +ℤ offset)
  near_fits h k = near_sum instant offset fits.sfits (rw same at h) (rw same at k)

  -- the offset as an i64
  wider : SFits w64 offset
  wider = record { sfits = omega (arith, fits.sfits) }

  once : to_z w32 (of_z w32 offset) ≡ offset
  once = to_z-of_z w32 offset fits

  twice : to_z w64 (of_z w64 (to_z w32 (of_z w32 offset))) ≡ offset
  twice = ap (λ (z : ℤ). to_z w64 (of_z w64 z)) once ∙ to_z-of_z w64 offset wider

  pub offset_fits : SFits w64 (to_z w32 (of_z w32 offset))
  offset_fits = rw once wider

  sum_is : b +ℤ to_z w64 (of_z w64 (to_z w32 (of_z w32 offset))) ≡ instant +ℤ offset
  sum_is = rw (same, twice)

  module _ (low : lt_z b (negsuc 69999999999) ≡ false) (high : lt_z (pos 260000000000) b ≡ false) where
    pub sum_fits : SFits w64 (b +ℤ to_z w64 (of_z w64 (to_z w32 (of_z w32 offset))))
    sum_fits = rw sum_is (near_fits low high)

    pub of_sum : (moment : Option Moment) → MomentOf (to_z w64 (of_z w64 (b +ℤ to_z w64 (of_z w64 (to_z w32 (of_z w32 offset)))))) moment → MomentOf (instant +ℤ offset) moment
    of_sum moment m = subst (λ (z : ℤ). MomentOf z moment) (to_z-of_z w64 _ sum_fits ∙ sum_is) m

-- what the clock shows at a second of a day
module _ (day second : ℕ) (d : InDays day second) where
  pub day_short : day < 3652059
  day_short = omega (arith, d.day_to, days_in_all)

  pub shows : {year month date weekday : ℕ} → DateOf day year month date → weekday ≡ weekday_of day →
      Shows (instant_of day second) (record { year = year; month = month; day = date; hour = second / 3600; minute = second / 60 % 60; second = second % 60; weekday = weekday })
  shows p w =
      record {
        date = p.is;
        hour = omega (arith, d.second_to);
        minute = omega arith;
        second = omega arith;
        weekday = w ∙ ap weekday_of (sym p.numbered);
        back = ap (λ (n : ℕ). instant_of n (3600 * (second / 3600) + 60 * (second / 60 % 60) + second % 60)) p.numbered ∙
            ap (instant_of day) (let whole : 3600 * (second / 3600) + 60 * (second / 60 % 60) + second % 60 ≡ second = omega arith in whole);
      }

-- the two ways to the answer
module _ (instant offset a b : ℤ) (p : a ≡ instant) (q : b ≡ offset) (moment : Option Moment) (given : MomentOf (a +ℤ b) moment) where
  is : MomentOf (instant +ℤ offset) moment
  is = subst (λ (z : ℤ). MomentOf z moment) (let e : a +ℤ b ≡ instant +ℤ offset = cc in e) given

  pub at_days : {at : Moment} → moment ≡ Some at → InDays at.day at.second × (instant_of at.day at.second ≡ instant +ℤ offset)
  unfolding MomentOf
  at_days e = rw e at is

  pub civil_shown_at : {at : Moment} {reading : Reading} → moment ≡ Some at → Shows (instant_of at.day at.second) reading → CivilOf instant offset (Some reading)
  unfolding CivilOf
  civil_shown_at {reading = reading} e s = subst (λ (z : ℤ). Shows z reading) (at_days e).1 s

  pub civil_outside : {civil : Option Reading} → moment ≡ None → civil ≡ None → CivilOf instant offset civil
  unfolding CivilOf
  civil_outside e n = rw n (rw e at is)
