-- Instants counted from the year 1 instead of from 1970, so that none is below zero. Assumes nothing.
use Rattle.numbers.proofs.Prelude.{ℕ, suc, ◌+◌, ◌-◌, ◌*◌, ◌/◌, ◌%◌, ◌<◌, lt-ltb, le-ltb, ltb-true, ltb-false, T, ℤ, pos, negsuc, ◌+ℤ◌, ◌-ℤ◌, nat_abs, lt_z, true, false, ◌≡◌, refl, sym, ap, subst, ◌∙◌}
use Rattle.numbers.proofs.Prelude.{w64, SFits, of_z, to_z, to_z-of_z, arith}
use lib.{IntN.{+ℤ-neg_ℤ_cancel, -ℤ-+ℤ_cancel}, Signed.{non_neg}}
use mir.Val.{Fits}
use Rattle.calendar.proofs.Laws.{days_in_all, epoch}
use Rattle.calendar.specs.{Moments.{seconds_to, instant_of, MomentOf}, declared.moment.Moment.{Moment}}
use Rattle.std.specs.Prelude.{Option, Some, None}

-- a moment by its two numbers
abbrev pub At : ℕ → ℕ → Option Moment
At day second = Some (record { day = day; second = second })

-- 1970 begins 62135596800 seconds after the year 1
pub instant_plain : (day second : ℕ) → instant_of day second ≡ pos (86400 * day + second) -ℤ pos 62135596800
unfolding instant_of seconds_to
instant_plain day second = rw epoch

shifted : ℤ → ℕ
shifted (pos n) = n + 62135596800
shifted (negsuc n) = 62135596800 - suc n

-- an instant from the year 1 on, shifted
shift : (z : ℤ) → lt_z z (negsuc 62135596799) ≡ false → z +ℤ pos 62135596800 ≡ pos (shifted z)
unfolding shifted
shift (pos n) h = refl
shift (negsuc n) h = simp (le-ltb 62135596800 (suc n) (omega (arith, ltb-false 62135596799 n h)))

-- and back
unshift : (z : ℤ) → lt_z z (negsuc 62135596799) ≡ false → pos (shifted z) -ℤ pos 62135596800 ≡ z
unshift z h = ap (λ (s : ℤ). s -ℤ pos 62135596800) (sym (shift z h)) ∙ +ℤ-neg_ℤ_cancel z (pos 62135596800)

-- up to the end of 9999
shifted_short : (z : ℤ) → lt_z (pos 253402300799) z ≡ false → shifted z < 315537897600
unfolding shifted
shifted_short (pos n) h = omega (arith, ltb-false 253402300799 n h)
shifted_short (negsuc n) h = omega arith

-- the shifted instant tells day and second
pub day_second : (z : ℤ) (n : ℕ) → n < 315537897600 → pos n -ℤ pos 62135596800 ≡ z → MomentOf z (At (n / 86400) (n % 86400))
unfolding MomentOf
day_second z n h e = (
  record { day_to = omega (arith, days_in_all); second_to = omega arith },
  instant_plain (n / 86400) (n % 86400) ∙ ap (λ (s : ℕ). pos s -ℤ pos 62135596800) (let whole : 86400 * (n / 86400) + n % 86400 ≡ n = omega arith in whole) ∙ e,
)

-- what the machine works out, whose number reads back as itself
module _ (z b : ℤ) (same : b ≡ z) (low : lt_z b (negsuc 62135596799) ≡ false) (high : lt_z (pos 253402300799) b ≡ false) where
  pub sum_fits : SFits w64 (b +ℤ pos 62135596800)
  sum_fits = rw (shift b low) (record { sfits = omega (arith, shifted_short b high) })

  read_back : to_z w64 (of_z w64 (b +ℤ pos 62135596800)) ≡ pos (shifted b)
  read_back = to_z-of_z w64 (b +ℤ pos 62135596800) sum_fits ∙ shift b low

  pub cast_fits : T (non_neg (to_z w64 (of_z w64 (b +ℤ pos 62135596800)))) × Fits w64 (nat_abs (to_z w64 (of_z w64 (b +ℤ pos 62135596800))))
  cast_fits = subst (λ (s : ℤ). T (non_neg s) × Fits w64 (nat_abs s)) (sym read_back) (tt, record { fits = omega (arith, shifted_short b high) })

  pub inside : MomentOf z (At (nat_abs (to_z w64 (of_z w64 (b +ℤ pos 62135596800))) / 86400) (nat_abs (to_z w64 (of_z w64 (b +ℤ pos 62135596800))) % 86400))
  inside = subst (λ (s : ℤ). MomentOf z (At (nat_abs s / 86400) (nat_abs s % 86400))) (sym read_back) (day_second z (shifted b) (shifted_short b high) (unshift b low ∙ same))

-- an instant of a day of these years, shifted
pub seconds_of : (z : ℤ) (day second : ℕ) → instant_of day second ≡ z → z +ℤ pos 62135596800 ≡ pos (86400 * day + second)
seconds_of z day second e = ap (λ (s : ℤ). s +ℤ pos 62135596800) (sym e ∙ instant_plain day second) ∙ -ℤ-+ℤ_cancel (pos (86400 * day + second)) (pos 62135596800)

-- no such instant is before the year 1
not_before : (b : ℤ) (s : ℕ) → lt_z b (negsuc 62135596799) ≡ true → b +ℤ pos 62135596800 ≡ pos s → ⊥
not_before (pos n) s h e = let z : ◌≡◌ {A = ℕ} 0 1 = cc in omega arith
not_before (negsuc n) s h e = let below = simp (lt-ltb 62135596800 (suc n) (omega (arith, ltb-true 62135596799 n h))) at e in let z : ◌≡◌ {A = ℕ} 0 1 = cc in
    omega arith

-- or after 9999
not_after : (b : ℤ) (s : ℕ) → s < 315537897600 → lt_z (pos 253402300799) b ≡ true → b +ℤ pos 62135596800 ≡ pos s → ⊥
not_after (pos n) s k h e = omega (arith, ltb-true 253402300799 n h, ap nat_abs e)
not_after (negsuc n) s k h e = let z : ◌≡◌ {A = ℕ} 0 1 = cc in omega arith

module _ (z b : ℤ) (same : b ≡ z) where
  pub before : lt_z b (negsuc 62135596799) ≡ true → MomentOf z None
  unfolding MomentOf
  before h day second d e = not_before b (86400 * day + second) h (seconds_of b day second (e ∙ sym same))

  pub after : lt_z (pos 253402300799) b ≡ true → MomentOf z None
  unfolding MomentOf
  after h day second d e = not_after b (86400 * day + second) (omega (arith, d.day_to, d.second_to, days_in_all)) h (seconds_of b day second (e ∙ sym same))
