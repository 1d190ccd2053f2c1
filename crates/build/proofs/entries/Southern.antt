-- A latitude counted from the south, and a yard's word. Assumes nothing.
use Rattle.numbers.proofs.Prelude.{ℕ, suc, ◌+◌, ◌-◌, ◌*◌, ◌%◌, ◌^◌, ◌<◌, le-ltb, T, ℤ, pos, negsuc, ◌+ℤ◌, nat_abs, get_or, Bool, cond, List, ◌≡◌, refl, sym, ap, subst, ◌∙◌, w32, w64, SFits, of_z}
use Rattle.numbers.proofs.Prelude.{to_z}
use Rattle.numbers.proofs.{Prelude.{arith}, write.Gaps.{widened}}
use lib.Signed.{non_neg}
use mir.Facts.{to_z-of_z}
use Rattle.builder.specs.Entries.{from_south, word_of_yard}

-- the sum of the code
south_sum : (z : ℤ) → SFits w32 z → z +ℤ pos 2147483648 ≡ pos (from_south z)
unfolding from_south
south_sum (pos n) h = refl
south_sum (negsuc n) h = let m : n < 2 ^ 31 = h.sfits in
    ap (λ (t : Bool). cond t (negsuc (suc n - suc 2147483648)) (pos (2147483648 - suc n))) (le-ltb 2147483648 (suc n) (omega (arith, m)))

south_small : (z : ℤ) → SFits w32 z → from_south z < 2 ^ 32
unfolding from_south
south_small (pos n) h = let m : n < 2 ^ 31 = h.sfits in omega (arith, m)
south_small (negsuc n) h = omega arith

module _ (z : ℤ) (h : SFits w32 z) where
  abbrev wide : ℤ
  wide = to_z w64 (of_z w64 (to_z w32 (of_z w32 z)))

  sum_is : wide +ℤ pos 2147483648 ≡ pos (from_south z)
  sum_is = ap (λ (x : ℤ). x +ℤ pos 2147483648) (widened h) ∙ south_sum z h

  up_fits : SFits w64 (pos (from_south z))
  up_fits = record { sfits = let s = south_small z h in omega (arith, s) }

  pub south_fits : SFits w64 (wide +ℤ pos 2147483648)
  south_fits = subst (SFits w64) (sym sum_is) up_fits

  back : to_z w64 (of_z w64 (wide +ℤ pos 2147483648)) ≡ pos (from_south z)
  back = to_z-of_z south_fits ∙ sum_is

  pub south_sign : T (non_neg (to_z w64 (of_z w64 (wide +ℤ pos 2147483648))))
  south_sign = subst (λ (x : ℤ). T (non_neg x)) (sym back) tt

  pub south_range : nat_abs (to_z w64 (of_z w64 (wide +ℤ pos 2147483648))) < 2 ^ 32
  south_range = subst (λ (x : ℤ). nat_abs x < 2 ^ 32) (sym back) (south_small z h)

  pub south_is : nat_abs (to_z w64 (of_z w64 (wide +ℤ pos 2147483648))) ≡ from_south z
  south_is = ap nat_abs back

-- a yard's word
pub yard_word : (boxes : List ℤ) (yard r : ℕ) → yard < 2 ^ 32 → r ≡ from_south (get_or boxes (4 * yard) (pos 0)) → r * 4294967296 + yard ≡ word_of_yard boxes yard
unfolding word_of_yard
yard_word boxes yard r h e = let m : yard % 2 ^ 32 ≡ yard = omega (arith, h) in rw (e, m) refl

pub word_fits : (z : ℤ) → SFits w32 z → (r : ℕ) → r ≡ from_south z → r < 2 ^ 32
word_fits z h r e = subst (λ (n : ℕ). n < 2 ^ 32) (sym e) (south_small z h)
