-- Signed numbers by their bits. Assumes nothing.
use Rattle.numbers.proofs.Prelude.{ℕ, ◌-◌, ◌^◌, ◌≤◌, ◌<◌, le-ltb, ℤ, pos, negsuc, ◌-ℤ◌, lt_z, true, false, ◌∷◌, ◌≡◌, ap, ◌∙◌, w32, w64, SFits, of_z, to_z, to_z-of_z, arith}
use Rattle.hour.specs.Line.{signed_text}
use Rattle.line.{proofs.Signs.{is_negative, not_negative}, specs.Put.{decimal}}

-- ---- the text of an i32, by its bits
module _ (z : ℤ) (fits : SFits w32 z) {bits : ℕ} (e : bits ≡ of_z w32 z) where
  pub below_zero : lt_z (to_z w32 (of_z w32 z)) (pos 0) ≡ true → 45 ∷ decimal (2 ^ 32 - bits) ≡ signed_text z
  unfolding signed_text
  below_zero t = let n = is_negative z fits e t in ap (λ (k : ℕ). 45 ∷ decimal k) n.size ∙ ap signed_text n.is

  pub from_zero : lt_z (to_z w32 (of_z w32 z)) (pos 0) ≡ false → decimal bits ≡ signed_text z
  unfolding signed_text
  from_zero t = ap signed_text (not_negative z fits e t)
