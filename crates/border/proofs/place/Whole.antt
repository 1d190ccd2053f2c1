-- Whole numbers of an i32 and an i64: ranges, tests and the way from one to the other. Assumes nothing.
use Rattle.numbers.proofs.Prelude.{ℕ, zero, suc, ◌+◌, ◌-◌, ◌^◌, ◌≤◌, ◌<◌, ne_eqb, eqb, ltb, ℤ, pos, negsuc, ◌+ℤ◌, ◌-ℤ◌, neg_ℤ, mag, Bool, true, false, cond, ◌≡◌, refl, w32, w64, SFits, of_z}
use Rattle.numbers.proofs.Prelude.{lt_of_le_of_lt, arith}
use Rattle.border.specs.Place.{is_zero}

mag_cond : (t : Bool) (a b : ℕ) (m : ℕ) → a ≤ m → b ≤ m → mag (cond t (negsuc a) (pos b)) ≤ m
mag_cond true a b m h k = h
mag_cond false a b m h k = k

mag_sum : (a b : ℤ) → mag (a +ℤ b) ≤ mag a + mag b + 1
mag_sum (pos a) (pos b) = omega arith
mag_sum (pos a) (negsuc b) = mag_cond (ltb a (suc b)) (suc b - suc a) (a - suc b) (a + b + 1) (omega arith) (omega arith)
mag_sum (negsuc a) (pos b) = mag_cond (ltb b (suc a)) (suc a - suc b) (b - suc a) (a + b + 1) (omega arith) (omega arith)
mag_sum (negsuc a) (negsuc b) = omega arith

pub sum_fits : {a b : ℤ} → SFits w32 a → SFits w32 b → SFits w64 (a +ℤ b)
sum_fits {a} {b} h k = record { sfits = lt_of_le_of_lt (mag_sum a b) (let x : mag a < 2 ^ 31 = h.sfits in let y : mag b < 2 ^ 31 = k.sfits in omega arith) }

mag_neg : (a : ℤ) → mag (neg_ℤ a) ≤ mag a + 1
mag_neg (pos zero) = omega arith
mag_neg (pos (suc n)) = omega arith
mag_neg (negsuc n) = omega arith

pub negation_fits : {a : ℤ} → SFits w32 a → SFits w64 (pos 0 -ℤ a)
negation_fits {a} h = record { sfits = lt_of_le_of_lt (mag_sum (pos 0) (neg_ℤ a)) (let x : mag a < 2 ^ 31 = h.sfits in omega (arith, mag_neg a)) }

pub difference_fits : {a b : ℤ} → SFits w32 a → SFits w32 b → SFits w64 (a -ℤ b)
difference_fits {a} {b} h k =
    record {
      sfits = lt_of_le_of_lt (mag_sum a (neg_ℤ b)) (let x : mag a < 2 ^ 31 = h.sfits in let y : mag b < 2 ^ 31 = k.sfits in omega (arith, mag_neg b));
    }

-- a number of which only the bits are tested
pub zero_bits : (z : ℤ) → SFits w32 z → eqb (of_z w32 z) 0 ≡ is_zero z
zero_bits (pos n) h = refl
zero_bits (negsuc n) h = ne_eqb (2 ^ 32 - suc n) 0 (λ e. let x : n < 2 ^ 31 = h.sfits in omega arith)
