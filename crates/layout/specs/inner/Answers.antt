-- What each answer of the code says.
use Rattle.std.specs.Prelude.{Option, Some, None, if◌then◌else◌, ◌*◌, ◌^◌, ◌≤◌, ◌<◌, ◌≡◌}
use Rattle.numbers.specs.{Lists.{zeros}, Prelude.{ℕ, leb, length, Bool, List}}
use Rattle.layout.specs.{Order.{key_of, sorted_by}, inner.Layout.{word_size, words_size, Fits, Least}}

-- the bytes of a word, at most five
pub record WordSize (word records size : ℕ) : Type 0 where
  pub is : size ≡ word_size word records
  pub most : size ≤ 5

-- the bytes of the words, of which none has more than five
pub record WordsSize (words : List ℕ) (records size : ℕ) : Type 0 where
  pub sum : size ≡ words_size words records
  pub most : size ≤ 5 * length words

-- the least length that fits, below 2 ^ 32, or none below it fits
unfoldable pub LaidOut : ℕ → List ℕ → Option ℕ → Type 0
LaidOut inline words (Some records) = Least inline words records × (records < 2 ^ 32)
LaidOut inline words None = (records : ℕ) → Fits inline words records → 2 ^ 32 ≤ records

-- the words in order, if the other list has room for as many; it is zero afterwards
pub record Sorted (words spare after other : List ℕ) (has : Bool) : Type 0 where
  pub room : has ≡ leb (length words) (length spare)
  pub order : after ≡ (if has then sorted_by key_of words else words)
  pub rest : other ≡ zeros (length spare)
