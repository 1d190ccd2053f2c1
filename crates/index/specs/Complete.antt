-- What the theorems speak of: a row by its number, a number in a list, coordinates that fit an i32; files that are alike, and words that building gave.
use Rattle.std.specs.Prelude.{FitsSigned, ◌+◌, ◌<◌, ◌∷◌, ◌≡◌}
use Rattle.numbers.specs.{Lists.{padded}, Prelude.{ℕ, length, take, get_or, true, List, w32}, Reply.{given}}
use Rattle.border.specs.declared.place.Point.{Point}
use Rattle.table.specs.{Find.{is_precision}, declared.{rows.Row.{Row}, table.Bounds.{Bounds}}}
use Rattle.header.specs.{Header.{head_of}, declared.header.Head.{Head}}
use Rattle.index.specs.{Index.{index_of}, Table.{table_of}}

-- the row with this number
pub data RowAt : List Row → ℕ → Row → Type 0 where
  first : {r : Row} {rows : List Row} → RowAt (r ∷ rows) 0 r
  next : {r s : Row} {rows : List Row} {k : ℕ} → RowAt rows k r → RowAt (s ∷ rows) (k + 1) r

-- the number is in the list
pub data Has (k : ℕ) : List ℕ → Type 0 where
  here : {list : List ℕ} → Has k (k ∷ list)
  later : {j : ℕ} {list : List ℕ} → Has k list → Has k (j ∷ list)

-- the coordinates of a box and of a fix are those of an i32, as every one that the code has
pub record Narrow (b : Bounds) (fix : Point) : Type 0 where
  pub south : FitsSigned w32 b.min_lat.0
  pub west : FitsSigned w32 b.min_lon.0
  pub north : FitsSigned w32 b.max_lat.0
  pub east : FitsSigned w32 b.max_lon.0
  pub lat : FitsSigned w32 fix.lat.0
  pub lon : FitsSigned w32 fix.lon.0

-- the bytes of a file
abbrev pub Bytes : List ℕ → Type 0
Bytes file = (i : ℕ) → get_or file i 0 < 256

-- the same length, and the same first bytes: with as many as stand before the metadata, the same header and table
pub record SameFront (size : ℕ) (file file' : List ℕ) : Type 0 where
  pub long : length file ≡ length file'
  pub bytes : take size file ≡ take size file'

-- words that building gave: those of the file's header and rows
pub record BuiltFrom (file : List ℕ) (n : ℕ) (words : List ℕ) : Type 0 where
  pub head : Head
  pub opened : given head ≡ head_of file
  pub precise : is_precision head.preamble.precision ≡ true
  pub rows : List Row
  pub listed : given rows ≡ table_of file head
  pub whole : words ≡ padded n (index_of file head rows)
