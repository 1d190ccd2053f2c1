-- How a reply goes over to C: a number, five words, and all lent output.
use Rattle.std.specs.Prelude.{◌∷◌}
use Rattle.numbers.specs.{Lists.{padded}, Prelude.{ℕ, List, []}, Reply.{Reply, given, refused}, declared.{refusal.Refusal.{Refusal}, said.Said.{Said}}}

-- a refusal's number, with its cause and detail
abbrev pub refused_said : Refusal → Said
refused_said why = record { number = why.number; words = padded 5 (why.cause ∷ why.detail ∷ []) }

-- 0 and the answer's values, or the refusal; zeros behind either
unfoldable pub said_of : {A : Type 0} → (A → List ℕ) → Reply A → Said
said_of values (given a) = record { number = 0; words = padded 5 (values a) }
said_of values (refused why) = refused_said why

-- that it is so has no value
abbrev pub no_values : Unit {0} → List ℕ
no_values u = []

-- what a call leaves
pub record Spoken : Type 0 where
  pub said : Said
  -- the lent outputs, in the order of the parameters
  pub lent : List (List ℕ)

abbrev pub spoken : ℕ → List ℕ → List (List ℕ) → Spoken
spoken number words lent = record { said = record { number = number; words = words }; lent = lent }
