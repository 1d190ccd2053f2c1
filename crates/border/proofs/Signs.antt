-- Coordinates and windings are i32: read back from their bits, widened, compared. Assumes nothing.
use Rattle.numbers.proofs.Prelude.{ℕ, suc, ◌^◌, lt-ltb, le-leb, leb-true, ltb-true, ltb, leb, ℤ, pos, negsuc, ◌+ℤ◌, ◌-ℤ◌, mag, le_z, Bool, true, false, ◌&&◌, ◌≡◌, refl, sym, ◌∙◌, w32, w64, SFits, of_z}
use Rattle.numbers.proofs.{Prelude.{to_z, arith}, write.Gaps.{widened}}
use mir.Facts.{to_z-of_z}
use Rattle.border.proofs.place.Whole.{sum_fits, difference_fits}
use mathlib.Core.Bool.{and-true}

-- ---- tests

-- two tests of the same
pub by_test : (t u : Bool) → (t ≡ true → u ≡ true) → (u ≡ true → t ≡ true) → t ≡ u
by_test true u f g = sym (f refl)
by_test false true f g = g refl
by_test false false f g = refl

leb_ltb : (n m : ℕ) → leb n m ≡ ltb n (suc m)
leb_ltb n m = by_test (leb n m) (ltb n (suc m)) (λ e. lt-ltb n (suc m) (omega (arith, leb-true n m e))) (λ e. le-leb n m (omega (arith, ltb-true n (suc m) e)))

-- the range of an i32
pub in_i32 : (z : ℤ) → (le_z (negsuc 2147483647) z && le_z z (pos 2147483647)) ≡ ltb (mag z) (2 ^ 31)
in_i32 (pos n) = leb_ltb n 2147483647
in_i32 (negsuc n) = and-true (leb n 2147483647) ∙ leb_ltb n 2147483647

-- ---- an i32 that is passed to a call or tested is read back from its bits

module _ {a b : ℤ} (f : SFits w32 a) (g : SFits w32 b) where
  pub read_le : le_z (to_z w32 (of_z w32 a)) (to_z w32 (of_z w32 b)) ≡ le_z a b
  read_le = rw (to_z-of_z {w = w32} f, to_z-of_z {w = w32} g)

  pub le_read : {t : Bool} → le_z (to_z w32 (of_z w32 a)) (to_z w32 (of_z w32 b)) ≡ t → le_z a b ≡ t
  le_read e = sym read_le ∙ e

-- ---- exact sums and differences, in an i64

module _ {a b : ℤ} (f : SFits w32 a) (g : SFits w32 b) where
  pub exact_sum : to_z w64 (of_z w64 (to_z w64 (of_z w64 (to_z w32 (of_z w32 a))) +ℤ to_z w64 (of_z w64 (to_z w32 (of_z w32 b))))) ≡ a +ℤ b
  exact_sum = rw (widened f, widened g, to_z-of_z {w = w64} (sum_fits f g))

  pub exact_difference : to_z w64 (of_z w64 (to_z w64 (of_z w64 (to_z w32 (of_z w32 a))) -ℤ to_z w64 (of_z w64 (to_z w32 (of_z w32 b))))) ≡ a -ℤ b
  exact_difference = rw (widened f, widened g, to_z-of_z {w = w64} (difference_fits f g))

-- what is below 2^31 in size is an i32
pub narrow : (z : ℤ) {t : Bool} → t ≡ ltb (mag z) (2 ^ 31) → t ≡ true → SFits w32 z
narrow z e h = record { sfits = ltb-true _ _ (sym e ∙ h) }
