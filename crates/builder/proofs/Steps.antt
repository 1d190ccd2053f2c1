-- The signed form of a step between two places. Assumes nothing.
use Rattle.numbers.proofs.Prelude.{ℕ, zero, suc, ◌+◌, ◌-◌, ◌*◌, ◌≤◌, ◌<◌, lt-ltb, le-ltb, ℤ, pos, ◌-ℤ◌, length, length-append, List, ◌++◌, ◌≡◌, ap, subst, arith}
use Rattle.numbers.{proofs.Spelling.{varint_few}, specs.Spelling.{varint_of, signed_form}}
use lib.IntN.{+ℤ_idr}
use Rattle.writer.{proofs.Stores.{stored_then}, specs.inner.Stored.{Stored}}
use Rattle.builder.specs.{Entries.{box_bytes}, declared.boxes.Bounds.{Bounds}}

pub step_down : (from to : ℕ) → to < from → (from - to) * 2 + 1 ≡ signed_form (pos to -ℤ pos from)
unfolding signed_form
step_down zero to h = absurd (omega arith)
step_down (suc k) to h = rw (lt-ltb to (suc k) h) (omega arith)

pub step_up : (from to : ℕ) → from ≤ to → (to - from) * 2 ≡ signed_form (pos to -ℤ pos from)
unfolding signed_form
step_up zero to h = omega arith
step_up (suc k) to h = rw (le-ltb to (suc k) h) (omega arith)

-- a step from 0
pub from_zero : (z : ℤ) → signed_form (z -ℤ pos 0) ≡ signed_form z
from_zero z = ap signed_form (+ℤ_idr z)

-- ---- what was stored, said otherwise
pub stored_as : {before after : List ℕ} {at next n m : ℕ} → n ≡ m → Stored before at (varint_of n) after next → Stored before at (varint_of m) after next
stored_as {before} {after} {at} {next} e s = subst (λ (k : ℕ). Stored before at (varint_of k) after next) e s

pub stored_few : (n : ℕ) {before after : List ℕ} {at next : ℕ} → Stored before at (varint_of n) after next → next ≤ at + 10
stored_few n s = omega (arith, s.place_after, varint_few n)

pub box_few : (b : Bounds) → length (box_bytes b) ≤ 40
unfolding box_bytes
box_few b = simp length-append (omega (arith, varint_few (signed_form b.south), varint_few (signed_form b.west), varint_few (signed_form b.north), varint_few (signed_form b.east)))

-- four, one after another
module _ {a b c d e w x y z : List ℕ} {p q r s t : ℕ} where
  pub stored_four : Stored a p w b q → Stored b q x c r → Stored c r y d s → Stored d s z e t → Stored a p (w ++ (x ++ (y ++ z))) e t
  stored_four one two three four = stored_then w (x ++ (y ++ z)) one (stored_then x (y ++ z) two (stored_then y z three four))
