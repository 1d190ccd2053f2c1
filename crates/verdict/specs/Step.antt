-- What a step along a border comes to.
use Rattle.std.specs.Prelude.{if◌then◌else◌, Result, Ok, Err}
use Rattle.numbers.specs.{Answer.{in_range}, Prelude.{ℕ, ℤ}}
use Rattle.verdict.specs.declared.step.{Halt.{Halt, TheVariants.{Meets, Over}}, Verdict.{Verdict}}

-- it goes on with what was found, or meets the location on the border, or is refused by a number
pub data Step (A : Type 0) : Type 0 where
  found : A → Step A
  meets : Verdict → Step A
  refused : ℕ → Step A

abbrev pub ◌>>=◌ : {A B : Type 0} → Step A → (A → Step B) → Step B
◌>>=◌ (found a) k = k a
◌>>=◌ (meets v) k = meets v
◌>>=◌ (refused n) k = refused n

infixl 20 ◌>>=◌
-- an integer step on which the checked Rust panics, between two edges
unfoldable pub checked : ℕ → ℤ → Step ℤ
checked bits z = if in_range bits z then found z else refused 13

-- what a result says
abbrev pub told : {A : Type 0} → Result A Halt → Step A
told (Ok a) = found a
told (Err (Meets verdict)) = meets verdict
told (Err Over) = refused 13
