-- An i32 by its bits, below zero or not. Assumes nothing.
use Rattle.numbers.proofs.Prelude.{ℕ, suc, ◌-◌, ◌^◌, ◌≤◌, ltb-true, ℤ, pos, negsuc, lt_z, true, false, ◌≡◌, refl, w32, SFits, of_z, to_z, to_z-of_z, arith}
use mir.ValLaws.{of_z_fits}

-- a negative one: its size is what its bits lack of 2 ^ 32
pub record Negative (z : ℤ) (bits : ℕ) : Type 0 where
  pub rest : ℕ
  pub is : negsuc rest ≡ z
  pub size : 2 ^ 32 - bits ≡ suc rest

negative : (z : ℤ) → SFits w32 z → lt_z z (pos 0) ≡ true → Negative z (of_z w32 z)
negative (pos n) fits e = absurd (omega (arith, ltb-true n 0 e))
negative (negsuc k) fits e = record { rest = k; is = refl; size = omega (arith, fits.sfits) }

other : (z : ℤ) → lt_z z (pos 0) ≡ false → pos (of_z w32 z) ≡ z
other (pos n) e = refl
other (negsuc k) e = let z : ◌≡◌ {A = ℕ} 0 1 = cc in absurd (omega arith)

module _ (z : ℤ) (fits : SFits w32 z) {bits : ℕ} (e : bits ≡ of_z w32 z) where
  pub few_bits : bits ≤ 2 ^ 32
  few_bits = omega (arith, e, (of_z_fits w32 z fits).fits)

  same : to_z w32 (of_z w32 z) ≡ z
  same = to_z-of_z w32 z fits

  pub is_negative : lt_z (to_z w32 (of_z w32 z)) (pos 0) ≡ true → Negative z bits
  is_negative t = rw e (negative z fits (rw same at t))

  pub not_negative : lt_z (to_z w32 (of_z w32 z)) (pos 0) ≡ false → pos bits ≡ z
  not_negative t = rw e (other z (rw same at t))
