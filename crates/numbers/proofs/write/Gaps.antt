-- The difference of two signed numbers and its signed form. Assumes nothing.
use Rattle.numbers.proofs.Prelude.{ℕ, zero, suc, ◌+◌, ◌-◌, ◌*◌, ◌^◌, ◌≤◌, ◌<◌, ltb-true, ltb, T, ℤ, pos, negsuc, ◌+ℤ◌, ◌-ℤ◌, neg_ℤ, nat_abs, mag, lt_z, Bool, true, false, cond, ◌≡◌, refl, sym}
use Rattle.numbers.proofs.{Prelude.{ap, ◌∙◌, w32, w64, SFits, of_z, to_z, arith}, Spelling.{form_positive, form_negative}, Tests.{differ}}
use lib.{IntN.{+ℤ_idl}, Signed.{non_neg}}
use Rattle.std.proofs.Common.{to_z-of_z}
use mir.Facts.{sfits_widen}
use Rattle.numbers.specs.Spelling.{signed_form}

-- an i32 that is read as an i64
pub widened : {z : ℤ} → SFits w32 z → to_z w64 (of_z w64 (to_z w32 (of_z w32 z))) ≡ z
widened h = ap (λ (x : ℤ). to_z w64 (of_z w64 x)) (to_z-of_z h) ∙ to_z-of_z {w = w64} (sfits_widen {w = w32} {w' = w64} tt h)

pub widens : {z : ℤ} → SFits w32 z → SFits w64 (to_z w32 (of_z w32 z))
widens h = rw (to_z-of_z h) (sfits_widen tt h)

-- ---- sizes
size_cond : (t : Bool) (a b m : ℕ) → suc a ≤ m → b ≤ m → nat_abs (cond t (negsuc a) (pos b)) ≤ m
size_cond true a b m h k = h
size_cond false a b m h k = k

pub size_sum : (a b : ℤ) → nat_abs (a +ℤ b) ≤ nat_abs a + nat_abs b
size_sum (pos a) (pos b) = omega arith
size_sum (pos a) (negsuc b) = size_cond (ltb a (suc b)) (suc b - suc a) (a - suc b) (a + suc b) (omega arith) (omega arith)
size_sum (negsuc a) (pos b) = size_cond (ltb b (suc a)) (suc a - suc b) (b - suc a) (suc a + b) (omega arith) (omega arith)
size_sum (negsuc a) (negsuc b) = omega arith

pub size_neg : (a : ℤ) → nat_abs (neg_ℤ a) ≡ nat_abs a
size_neg (pos zero) = refl
size_neg (pos (suc n)) = refl
size_neg (negsuc n) = refl

pub mag_size : (z : ℤ) → mag z ≤ nat_abs z
mag_size (pos n) = omega arith
mag_size (negsuc n) = omega arith

size_mag : (z : ℤ) → nat_abs z ≤ mag z + 1
size_mag (pos n) = omega arith
size_mag (negsuc n) = omega arith

size_fits : (z : ℤ) → nat_abs z < 2 ^ 60 → SFits w64 z
size_fits z h = record { sfits = omega (arith, mag_size z) }

-- an i64 that is read back
pub same_wide : (z : ℤ) → nat_abs z < 2 ^ 60 → to_z w64 (of_z w64 z) ≡ z
same_wide z h = to_z-of_z (size_fits z h)

size_away : (z : ℤ) → nat_abs (pos 0 -ℤ z) ≡ nat_abs z
size_away z = ap nat_abs (+ℤ_idl (neg_ℤ z)) ∙ size_neg z

-- ---- the difference of two i32, in an i64
abbrev pub wide : ℤ → ℤ
wide z = to_z w64 (of_z w64 (to_z w32 (of_z w32 z)))

module _ (from to : ℤ) (h : SFits w32 from) (k : SFits w32 to) where
  abbrev gap : ℤ
  gap = to -ℤ from

  gap_size : nat_abs gap < 2 ^ 33
  gap_size = let x : mag from < 2 ^ 31 = h.sfits in let y : mag to < 2 ^ 31 = k.sfits in
      omega (arith, size_sum to (neg_ℤ from), size_neg from, size_mag to, size_mag from)

  gap_small : nat_abs gap < 2 ^ 60
  gap_small = omega (arith, gap_size)

  pub gap_fits : SFits w64 (wide to -ℤ wide from)
  gap_fits = rw (widened h, widened k) (size_fits gap gap_small)

  abbrev read : ℤ
  read = to_z w64 (of_z w64 (wide to -ℤ wide from))

  gap_read : read ≡ gap
  gap_read = rw (widened h, widened k) (same_wide gap gap_small)

  -- below 0: the gap away from it
  pub away_fits : SFits w64 (pos 0 -ℤ read)
  away_fits = rw gap_read (size_fits (pos 0 -ℤ gap) (omega (arith, size_away gap, gap_size)))

  away_read : to_z w64 (of_z w64 (pos 0 -ℤ read)) ≡ neg_ℤ gap
  away_read = rw gap_read (same_wide (pos 0 -ℤ gap) (omega (arith, size_away gap, gap_size)) ∙ +ℤ_idl (neg_ℤ gap))

  abbrev away : ℤ
  away = to_z w64 (of_z w64 (pos 0 -ℤ read))

  pub away_small : nat_abs away < 2 ^ 33
  away_small = rw away_read (omega (arith, size_neg gap, gap_size))

  pub away_sign : lt_z read (pos 0) ≡ true → T (non_neg away)
  away_sign e = rw away_read (sign gap (rw gap_read at e)) where
    sign : (z : ℤ) → lt_z z (pos 0) ≡ true → T (non_neg (neg_ℤ z))
    sign (pos n) e = absurd (omega (arith, ltb-true n 0 e))
    sign (negsuc n) e = tt

  pub away_form : lt_z read (pos 0) ≡ true → nat_abs away * 2 + 1 ≡ signed_form gap
  away_form e = rw away_read (form gap (rw gap_read at e)) where
    form : (z : ℤ) → lt_z z (pos 0) ≡ true → nat_abs (neg_ℤ z) * 2 + 1 ≡ signed_form z
    form (pos n) e = absurd (omega (arith, ltb-true n 0 e))
    form (negsuc n) e = omega (arith, form_negative n)

  pub read_small : nat_abs read < 2 ^ 33
  read_small = rw gap_read gap_size

  pub read_sign : lt_z read (pos 0) ≡ false → T (non_neg read)
  read_sign e = rw gap_read (sign gap (rw gap_read at e)) where
    sign : (z : ℤ) → lt_z z (pos 0) ≡ false → T (non_neg z)
    sign (pos n) e = tt
    sign (negsuc n) e = differ (sym e)

  pub read_form : lt_z read (pos 0) ≡ false → nat_abs read * 2 ≡ signed_form gap
  read_form e = rw gap_read (form gap (rw gap_read at e)) where
    form : (z : ℤ) → lt_z z (pos 0) ≡ false → nat_abs z * 2 ≡ signed_form z
    form (pos n) e = omega (arith, form_positive n)
    form (negsuc n) e = differ (sym e)
