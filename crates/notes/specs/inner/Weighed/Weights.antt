-- A value of a new record that changes no other record: it is empty, stands behind the records already, or was met neither among the held values nor before it in its own record.
use Rattle.std.specs.Prelude.{if◌then◌else◌, ◌∷◌, ◌++◌, ◌≡◌}
use Rattle.numbers.specs.Prelude.{ℕ, length, true, false, List, []}
use Rattle.builder.specs.{Metadata.{inlined, is_remote}, Sharing.{same_text, is_in}, Yards.{Text}}

module _ (fields values : List Text) where
  pub data Weight (seen : List Text) (t : Text) : Type 0 where
    nothing : length t ≡ 0 → Weight seen t
    behind : is_remote fields t ≡ true → Weight seen t
    unmet : is_in same_text t (values ++ seen) ≡ false → Weight seen t

  -- one after another
  unfoldable pub Weighed : List Text → List Text → Type 0
  Weighed seen [] = Unit {0}
  Weighed seen (t ∷ ts) = Weight seen t × Weighed (seen ++ (t ∷ [])) ts

-- its bytes in the record, if a word has so many
unfoldable pub weight_of : List Text → ℕ → Text → ℕ
weight_of fields word t = if is_remote fields t then word else length (inlined t)
