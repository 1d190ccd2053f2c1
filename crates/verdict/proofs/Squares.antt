-- Squares that fit an i64: those of the numbers up to 3,037,000,499 in size. Assumes nothing.
use Rattle.numbers.proofs.Prelude.{ℕ, suc, ◌+◌, ◌*◌, ◌/◌, ◌%◌, ◌^◌, ◌≤◌, ◌<◌, lt-ltb, le-ltb, leb-true, leb-false, ltb, leb, T, lit<, lit≤, ℤ, pos, negsuc, nat_abs, mag, le_z, Bool, true, false, ◌&&◌}
use Rattle.numbers.proofs.Prelude.{◌≡◌, refl, sym, ap, ◌∙◌, w32, SFits, le_trans, lt_of_le_of_lt, mul-le-mul, arith}
use native.Mathlib.Nat.{add-mul-mod_self_left}
use lib.{IntN.{◌*ℤ◌}, Signed.{non_neg}}
use mathlib.Core.Bool.{and-true}

square_fits : (n : ℕ) → n ≤ 3037000499 → n * n < 2 ^ 63
square_fits n h = lt_of_le_of_lt (mul-le-mul h h) (lit< tt)

by_size : (n : ℕ) (t : Bool) (small : t ≡ true → n ≤ 3037000499) (large : t ≡ false → 3037000500 ≤ n) → t ≡ ltb (n * n) (2 ^ 63)
by_size n true small large = sym (lt-ltb _ _ (square_fits n (small refl)))
by_size n false small large = sym (le-ltb _ _ (let h = large refl in le_trans (lit≤ tt) (mul-le-mul h h)))

pub square_test : (z : ℤ) → (le_z (negsuc 3037000498) z && le_z z (pos 3037000499)) ≡ ltb (mag (z *ℤ z)) (2 ^ 63)
square_test (pos n) = by_size n (leb n 3037000499) (leb-true n 3037000499) (λ e. omega (arith, leb-false n 3037000499 e))
square_test (negsuc n) =
    and-true (leb n 3037000498) ∙ by_size (suc n) (leb n 3037000498) (λ e. omega (arith, leb-true n 3037000498 e)) (λ e. omega (arith, leb-false n 3037000498 e))

pub square_not_negative : (z : ℤ) → T (non_neg (z *ℤ z))
square_not_negative (pos n) = tt
square_not_negative (negsuc n) = tt

pub square_size : (z : ℤ) → nat_abs (z *ℤ z) ≡ mag (z *ℤ z)
square_size (pos n) = refl
square_size (negsuc n) = refl

-- the square of an i32
pub i32_squared : (z : ℤ) → SFits w32 z → mag (z *ℤ z) < 2 ^ 63
i32_squared (pos n) f = square_fits n (let h : n < 2 ^ 31 = f.sfits in omega arith)
i32_squared (negsuc n) f = square_fits (suc n) (let h : n < 2 ^ 31 = f.sfits in omega arith)

-- of a number that is multiplied by 4 the two leading bits are lost
pub fourfold : (y x : ℕ) → (y + x % 2 ^ 62 * 4) % 2 ^ 64 ≡ (y + 4 * x) % 2 ^ 64
fourfold y x = sym (add-mul-mod_self_left (y + x % 2 ^ 62 * 4) (2 ^ 64) (x / 2 ^ 62)) ∙ ap (λ (n : ℕ). n % 2 ^ 64) (omega arith)
