-- The bits of a signed number of any width. Assumes nothing.
use Rattle.numbers.proofs.Prelude.{ℕ, suc, ◌+◌, ◌-◌, ◌^◌, ◌<◌, le-ltb, ltb-true, T, ℤ, pos, negsuc, ◌-ℤ◌, nat_abs, mag, lt_z, true, false, ◌≡◌, refl, ap, ◌∙◌, SFits, of_z, to_z, to_z-of_z, arith}
use lib.Signed.{non_neg}
use mir.{Syntax.{Width}, Val.{bits, hbits}}

-- a negative one: -1 less it is what its bits lack of all ones, and one less than its size
record Below (w : Width) (z : ℤ) : Type 0 where
  rest : negsuc 0 -ℤ z ≡ pos (mag z)
  lacks : 2 ^ bits w - 1 - mag z ≡ of_z w z
  size : mag z + 1 ≡ nat_abs z

below : (w : Width) (z : ℤ) → lt_z z (pos 0) ≡ true → Below w z
below w (pos n) e = absurd (omega (arith, ltb-true n 0 e))
below w (negsuc k) e = record { rest = rw (le-ltb (suc k) 1 (omega arith)) (ap pos (omega arith)); lacks = omega arith; size = omega arith }

-- any other
pub record Above (w : Width) (z : ℤ) : Type 0 where
  pub sign : T (non_neg z)
  pub small : nat_abs z < 2 ^ hbits w
  pub bits_are : nat_abs z ≡ of_z w z

above : (w : Width) (z : ℤ) → SFits w z → lt_z z (pos 0) ≡ false → Above w z
above w (pos n) h e = record { sign = tt; small = h.sfits; bits_are = refl }
above w (negsuc k) h e = let z : ◌≡◌ {A = ℕ} 0 1 = cc in absurd (omega arith)

-- a number as the code has it
module _ (w : Width) (z : ℤ) (h : SFits w z) where
  same : to_z w (of_z w z) ≡ z
  same = to_z-of_z w z h

  module _ (e : lt_z (to_z w (of_z w z)) (pos 0) ≡ true) where
    it : Below w z
    it = below w z (rw same at e)

    pub rest_fits : SFits w (negsuc 0 -ℤ to_z w (of_z w z))
    rest_fits = rw (same, it.rest) (record { sfits = h.sfits })

    pub rest_form : to_z w (of_z w (negsuc 0 -ℤ to_z w (of_z w z))) ≡ pos (mag z)
    rest_form = to_z-of_z w _ rest_fits ∙ ap (λ (y : ℤ). negsuc 0 -ℤ y) same ∙ it.rest

    pub bits_below : 2 ^ bits w - 1 - mag z ≡ of_z w z
    bits_below = it.lacks

    pub size_below : mag z + 1 ≡ nat_abs z
    size_below = it.size

  pub from_zero : lt_z (to_z w (of_z w z)) (pos 0) ≡ false → Above w (to_z w (of_z w z))
  from_zero e = rw same (above w z h (rw same at e))

  pub bits_above : lt_z (to_z w (of_z w z)) (pos 0) ≡ false → nat_abs (to_z w (of_z w z)) ≡ of_z w z
  bits_above e = (from_zero e).bits_are ∙ ap (of_z w) same
