-- The numbers of an entry. Assumes nothing.
use Rattle.numbers.proofs.Prelude.{ℕ, ◌+◌, ◌-◌, ◌*◌, ◌^◌, ◌≤◌, ◌<◌, lt-ltb, le-ltb, List, ◌++◌, ◌≡◌, arith}
use Rattle.numbers.{proofs.{Coordinates.{below}, Spelling.{form_positive, form_negative}}, specs.{Point.{read_i32}, Spelling.{signed_form}}}
use Rattle.salvage.proofs.moves.Capping.{capped_then}
use Rattle.salvage.specs.inner.Moves.Laid.{Capped}

-- a residue modulo 2 ^ 32 as an i32, in its signed form
pub form_up : (low : ℕ) → low < 2 ^ 31 → low * 2 ≡ signed_form (read_i32 low)
form_up low h = rw (lt-ltb low (2 ^ 31) h, form_positive low) (omega arith)

pub form_down : (low : ℕ) → 2 ^ 31 ≤ low → low < 2 ^ 32 → (2 ^ 32 - low) * 2 + 1 ≡ signed_form (read_i32 low)
form_down low h k = rw (le-ltb low (2 ^ 31) h, below low k, form_negative (2 ^ 32 - 1 - low)) (omega arith)

-- four, one after another
module _ {a b c d e w x y z : List ℕ} {p q r s t : ℕ} where
  pub capped_four : Capped a p w b q → Capped b q x c r → Capped c r y d s → Capped d s z e t → Capped a p (w ++ (x ++ (y ++ z))) e t
  capped_four one two three four = capped_then w (x ++ (y ++ z)) one (capped_then x (y ++ z) two (capped_then y z three four))
