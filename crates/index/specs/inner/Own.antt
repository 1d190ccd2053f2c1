-- What the functions that hold words against an index say of each other.
use Rattle.std.specs.Prelude.{◌+◌, ◌-◌, ◌*◌, ◌^◌, ◌<◌, ◌&&◌, ◌∷◌, ◌≡◌}
use Rattle.numbers.specs.{Lists.{zeros}, Prelude.{ℕ, eqb, ltb, leb, length, Bool, true, List, []}, Reply.{Reply, given, refused, plain, demand, ◌>>=◌, ◌>>◌}}
use Rattle.table.specs.{Find.{is_precision}, declared.rows.Row.{Row}}
use Rattle.header.specs.declared.header.Head.{Head}
use Rattle.index.specs.{Index.{records_of, kept_of, tiles, records_at, lists_at}, Table.{table_of}, Tied.{word_at}, inner.Building.{lists_in}}

-- a word stands at a place of the words
abbrev pub is_word : List ℕ → ℕ → ℕ → Bool
is_word words at word = ltb at (length words) && eqb (word_at words at) word

-- words stand there, one after the other
unfoldable pub is_at : List ℕ → ℕ → List ℕ → Bool
is_at words at [] = true
is_at words at (x ∷ xs) = is_word words at x && is_at words (at + 1) xs

-- the place behind them, or 36
abbrev pub stands_from : List ℕ → ℕ → List ℕ → Reply ℕ
stands_from words at xs = demand (is_at words at xs) (plain 36) >> given (at + length xs)

-- each list stands where the one before it ends, and its place at a place of the words
unfoldable pub lists_stand : List ℕ → ℕ → ℕ → List (List ℕ) → Reply ℕ
lists_stand words t at [] = demand (is_word words t at) (plain 36) >> given at
lists_stand words t at (list ∷ lists) = demand (is_word words t at) (plain 36) >> (stands_from words at list >>= λ next. lists_stand words (t + 1) next lists)

-- zeros stand from a place to the end
abbrev pub is_empty_from : List ℕ → ℕ → Bool
is_empty_from words at = is_at words at (zeros (length words - at))

-- the table's rows, with their records in the words
unfoldable pub compared_of : List ℕ → Head → List ℕ → Reply (List Row)
compared_of file head words = do
  rows ← table_of file head
  demand (is_at words records_at (records_of rows)) (plain 36)
  given rows

pub record Counted (rows : List Row) (n : ℕ) : Type 0 where
  pub counted : n ≡ length rows
  pub few : n < 2 ^ 32

-- all that is not the records, by the records in the words: how many words are used, or 36
unfoldable pub rest_of : List ℕ → ℕ → ℕ → List ℕ → ℕ → Reply ℕ
rest_of file size precision words n = do
  demand (leb (lists_at n size) (length words)) (plain 36)
  demand (is_at words 0 (length file ∷ size ∷ n ∷ [])) (plain 36)
  demand (is_at words (records_at + 7 * n) (kept_of file size)) (plain 36)
  used ← lists_stand words 3 (lists_at n size) (lists_in words precision n tiles 0)
  demand (ltb used (2 ^ 32)) (plain 36)
  demand (is_empty_from words used) (plain 36)
  given used

-- in a file with this header
unfoldable pub own_with : List ℕ → Head → List ℕ → Reply (Unit {0})
own_with file head words = do
  demand (is_precision head.preamble.precision) (plain 16)
  rows ← compared_of file head words
  used ← rest_of file head.sections.metadata head.preamble.precision words (length rows)
  given tt
