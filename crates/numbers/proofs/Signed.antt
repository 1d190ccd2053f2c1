-- Signed numbers of any width, as the machine reads them back from their bits. Assumes nothing.
use Rattle.numbers.proofs.Prelude.{ℕ, zero, suc, ◌^◌, ◌≤◌, ◌<◌, sfits_of, ℤ, pos, negsuc, ◌-ℤ◌, pow_mono, mag, Bool, true, false, cond, ◌≡◌, refl, ap, ◌∙◌, SFits, to_z, lt_of_lt_of_le}
use Rattle.std.proofs.Common.{zero-add}
use mir.{Syntax.{Width}, Val.{hbits}, ValLaws.{to_z_pos}}

-- -1 less a number without a sign is its complement, and fits
minus_one_less : (k : ℕ) → negsuc 0 -ℤ pos k ≡ negsuc k
minus_one_less zero = refl
minus_one_less (suc k) = ap (λ (n : ℕ). negsuc (suc n)) (zero-add k)

module _ (w : Width) (k : ℕ) (h : k < 2 ^ hbits w) where
  pub complement : negsuc 0 -ℤ to_z w k ≡ negsuc k
  complement = ap (λ (z : ℤ). negsuc 0 -ℤ z) (to_z_pos w k h) ∙ minus_one_less k

  pub complement_fits : SFits w (negsuc 0 -ℤ to_z w k)
  complement_fits = rw complement (record { sfits = h })

-- what fits a width fits a wider one
pub widens : (v w : Width) → hbits v ≤ hbits w → (n : ℤ) → SFits v n → SFits w n
widens v w l n f = sfits_of (lt_of_lt_of_le f.sfits (pow_mono l))

-- one of either sign that is small
pub mag_cond : (t : Bool) (a b m : ℕ) → a < m → b < m → mag (cond t (negsuc a) (pos b)) < m
mag_cond true a b m h k = h
mag_cond false a b m h k = k
