-- How long the records of a metadata section are. A value that stands in the records more than once is kept behind them, and a word
-- in the record says where: 256 + the text's place in the section. So the words' lengths hang on the records' length, and it on theirs.
use Rattle.std.specs.Prelude.{if◌then◌else◌, ◌+◌, ◌≤◌, ◌∷◌, ◌≡◌}
use Rattle.numbers.specs.{Prelude.{ℕ, zero, suc, eqb, length, List, []}, Spelling.{varint_of}}

-- the bytes of a word if the records take this length: 0 stands for a value that needs no word, 1 + n for a text that lies n bytes behind the records
unfoldable pub word_size : ℕ → ℕ → ℕ
word_size word records = if eqb word 0 then 0 else length (varint_of (255 + records + word))

unfoldable pub words_size : List ℕ → ℕ → ℕ
words_size [] records = 0
words_size (word ∷ words) records = word_size word records + words_size words records

-- the length that the records then take: the bytes that are no words, and the words
unfoldable pub next : ℕ → List ℕ → ℕ → ℕ
next inline words records = inline + words_size words records

-- the layout fits: the records take the length that they were laid out for
unfoldable pub Fits : ℕ → List ℕ → ℕ → Type 0
Fits inline words records = next inline words records ≡ records

-- of the lengths that fit, the least
pub record Least (inline : ℕ) (words : List ℕ) (records : ℕ) : Type 0 where
  pub fits : Fits inline words records
  pub least : (other : ℕ) → Fits inline words other → records ≤ other

-- the length after so many steps, from no words at all
unfoldable pub after : ℕ → List ℕ → ℕ → ℕ
after inline words zero = inline
after inline words (suc steps) = next inline words (after inline words steps)
