-- What reading answers: what stood there and the place behind it, or the place of a fault.
use Rattle.std.specs.Prelude.{if◌then◌else◌, ◌+◌}
use Rattle.numbers.specs.Prelude.{ℕ, eqb, List}
use Rattle.tzrule.specs.Text.{byte_at}

pub data Answer (A : Type 0) : Type 0 where
  read : A → ℕ → Answer A
  fault : ℕ → Answer A

-- go on from the place behind; a fault stays
unfoldable pub onward : {A B : Type 0} → Answer A → (A → ℕ → Answer B) → Answer B
onward (read a next) k = k a next
onward (fault place) k = fault place

-- read one thing from a place, then another from the place behind it
infixl 20 ◌>>=◌
abbrev pub ◌>>=◌ : {A B : Type 0} → (ℕ → Answer A) → (A → ℕ → Answer B) → ℕ → Answer B
◌>>=◌ first k at = onward (first at) k

-- read nothing
abbrev pub give : {A : Type 0} → A → ℕ → Answer A
give a at = read a at

-- where a byte stands, go on behind it; else from here
abbrev pub if_byte : {A : Type 0} → List ℕ → ℕ → (ℕ → Answer A) → (ℕ → Answer A) → ℕ → Answer A
if_byte text byte there other at = if eqb (byte_at text at) byte then there (at + 1) else other at
