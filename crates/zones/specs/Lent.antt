-- What an entry point answers, and what goes into the buffers that it was lent.
use Rattle.std.specs.Prelude.{◌≡◌}
use Rattle.numbers.specs.{Lists.{zeros, padded}, Prelude.{ℕ, List}, Reply.{Reply, given, refused}}
use Rattle.table.specs.{Hits.{words}, declared.hits.Hit.{Hit}}

-- the answer, and what is put into the lent list and the lent text
pub record Outcome (A : Type 0) : Type 0 where
  pub answer : A
  pub matches : List Hit
  pub text : List ℕ

-- its reply, and the words and bytes that it was lent
pub record Replied (A : Type 0) : Type 0 where
  pub reply : Reply A
  pub hits : List ℕ
  pub text : List ℕ

abbrev pub replied : {A : Type 0} → Reply A → List ℕ → List ℕ → Replied A
replied reply hits text = record { reply = reply; hits = hits; text = text }

-- output beyond the answer is zero, and all of it where it is refused
unfoldable pub replied_of : {A : Type 0} → ℕ → ℕ → Reply (Outcome A) → Replied A
replied_of n room (given o) = replied (given o.answer) (padded n (words o.matches)) (padded room o.text)
replied_of n room (refused why) = replied (refused why) (zeros n) (zeros room)

-- the buffers hold an outcome
abbrev pub Filled : {A : Type 0} → ℕ → ℕ → List ℕ → List ℕ → Outcome A → A → Type 0
Filled n room hits text o answer = replied (given answer) hits text ≡ replied_of n room (given o)
