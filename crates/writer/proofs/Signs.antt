-- Signed numbers of the code: the difference of two coordinates and its signed form. Assumes nothing.
use Rattle.numbers.proofs.Prelude.{ℕ, zero, suc, ne_eqb, eqb, ℤ, pos, negsuc, ◌+ℤ◌, ◌-ℤ◌, neg_ℤ, ◌≡◌, sym, ap, ◌∙◌, w32, SFits, of_z, to_z, arith}
use Rattle.numbers.{proofs.Spelling.{form_positive, form_negative}, specs.Spelling.{signed_form}}
use lib.IntN.{+ℤ_idr, +ℤ_comm, neg_ℤ-+ℤ, neg_ℤ-neg_ℤ}
use mir.Facts.{to_z-of_z}
use Rattle.border.specs.Place.{is_zero}

pub form_zero : (z : ℤ) → eqb (signed_form z) 0 ≡ is_zero z
form_zero (pos zero) = rw (form_positive zero)
form_zero (pos (suc n)) = ne_eqb (signed_form (pos (suc n))) 0 (λ e. omega (arith, form_positive (suc n))) ∙ sym (ne_eqb (suc n) 0 (λ e. omega arith))
form_zero (negsuc n) = ne_eqb (signed_form (negsuc n)) 0 (λ e. omega (arith, form_negative n))

-- a difference turned round
pub turned : (a b : ℤ) → neg_ℤ (a -ℤ b) ≡ b -ℤ a
turned a b = neg_ℤ-+ℤ a (neg_ℤ b) ∙ ap (λ (z : ℤ). neg_ℤ a +ℤ z) (neg_ℤ-neg_ℤ b) ∙ +ℤ_comm (neg_ℤ a) b

pub from_zero : (z : ℤ) → z -ℤ pos 0 ≡ z
from_zero z = +ℤ_idr z

-- a form that was asked for, of two i32 that were passed
pub formed : {r : ℕ} (from to : ℤ) → SFits w32 from → SFits w32 to → r ≡ signed_form (to_z w32 (of_z w32 to) -ℤ to_z w32 (of_z w32 from)) → r ≡ signed_form (to -ℤ from)
formed from to h k e = e ∙ rw (to_z-of_z h, to_z-of_z k)
