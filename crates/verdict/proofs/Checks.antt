-- A result that the checked Rust holds against a range, where it was found inside and where not. Assumes nothing.
use Rattle.numbers.proofs.Prelude.{ℕ, ◌^◌, ◌<◌, lt-ltb, ltb, ℤ, mag, Bool, true, false, ◌≡◌, sym, ◌∙◌}
use Rattle.verdict.specs.Step.{found, refused, checked}

module _ (bits : ℕ) (z : ℤ) {t : Bool} (e : t ≡ ltb (mag z) (2 ^ bits)) where
  pub checked_found : t ≡ true → checked bits z ≡ found z
  unfolding checked
  checked_found h = rw (sym e ∙ h)

  pub checked_over : t ≡ false → checked bits z ≡ refused 13
  unfolding checked
  checked_over h = rw (sym e ∙ h)

-- what is known to fit needs no test
pub checked_fits : (bits : ℕ) (z : ℤ) → mag z < 2 ^ bits → checked bits z ≡ found z
unfolding checked
checked_fits bits z h = rw (lt-ltb _ _ h)
