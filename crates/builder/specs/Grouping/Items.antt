-- Items: so many texts in a row, by where each text of a list begins. A text alone is an item of one, a record one of as many as there are names.
use Rattle.std.specs.Prelude.{fold, ◌+◌, ◌-◌, ◌*◌, ◌%◌, ◌^◌, ◌≤◌, ◌<◌, ◌∷◌}
use Rattle.numbers.specs.Prelude.{ℕ, zero, suc, length, take, drop, get_or, List, []}
use Rattle.builder.specs.Yards.{Text}

-- a hash: any function of the bytes would do
unfoldable pub hash_byte : ℕ → ℕ → ℕ
hash_byte hash byte = (hash * 16777619 + byte) % 2 ^ 32

abbrev pub hash_text : ℕ → Text → ℕ
hash_text = fold (λ hash byte. hash_byte hash byte)

unfoldable pub hash_texts : ℕ → List Text → ℕ
hash_texts hash [] = hash
hash_texts hash (text ∷ texts) = hash_texts (hash_text hash text) texts

-- where each part of these lengths begins, and where the last one ends
unfoldable pub starts_from : ℕ → List ℕ → List ℕ
starts_from at [] = at ∷ []
starts_from at (n ∷ ns) = at ∷ starts_from (at + n) ns

-- a text by its number
unfoldable pub text_at : List ℕ → List ℕ → ℕ → Text
text_at starts texts i = take (get_or starts (i + 1) 0 - get_or starts i 0) (drop (get_or starts i 0) texts)

-- an item by its first text and how many it has
unfoldable pub item_at : List ℕ → List ℕ → ℕ → ℕ → List Text
item_at starts texts at zero = []
item_at starts texts at (suc width) = text_at starts texts at ∷ item_at starts texts (at + 1) width

-- the first so many texts lie inside the list, one after another
pub record Inside (starts texts : List ℕ) (count : ℕ) : Type 0 where
  pub many : count < length starts
  pub rise : (i : ℕ) → i < count → get_or starts i 0 ≤ get_or starts (i + 1) 0
  pub most : (i : ℕ) → i < count → get_or starts (i + 1) 0 ≤ length texts
