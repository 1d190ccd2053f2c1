-- The header, in document 01's order, its numbers read strictly or not.
use Rattle.std.specs.Prelude.{if◌then◌else◌, ◌+◌, ◌*◌, ◌%◌, ◌^◌, ◌||◌, ◌++◌}
use Rattle.numbers.specs.{Limits.{largest_file}, Prelude.{ℕ, zero, suc, eqb, ltb, leb, length, get_or, Bool, true, false, List, []}}
use Rattle.numbers.specs.{Reply.{Reply, given, refusal, plain, demand, ◌or_else◌, ◌>>=◌, ◌>>◌}, Varint.{Numeral, reading_of}}
use Rattle.header.specs.{Field.{entry}, Text.{text_at, bytes_of}, declared.header.{Head.{Head}, Preamble.{Preamble}, Sections.{Sections}}, declared.text.Blame.{Blame}}

-- ---- refusals 1 to 5
-- the three bytes as one number, the first highest
abbrev pub magic_of : List ℕ → ℕ
magic_of file = get_or file 0 0 * 2 ^ 16 + get_or file 1 0 * 2 ^ 8 + get_or file 2 0

-- `T` or `C`
abbrev pub is_kind : ℕ → Bool
is_kind byte = eqb byte 0x54 || eqb byte 0x43

-- `PLB`, `T` or `C`, version, precision, field count
unfoldable pub preamble_of : List ℕ → Reply Preamble
preamble_of file = do
  demand (leb (length file) largest_file) (plain 1)
  demand (leb 7 (length file)) (refusal 2 0 (length file))
  demand (eqb (magic_of file) 0x504C42) (refusal 3 0 (magic_of file))
  demand (is_kind (get_or file 3 0)) (refusal 4 0 (get_or file 3 0))
  demand (ltb (get_or file 4 0) 2) (refusal 5 0 (get_or file 4 0))
  given (record { kind = get_or file 3 0; version = get_or file 4 0; precision = get_or file 5 0; count = get_or file 6 0 })

-- ---- names and notice
-- a bad name is 6 with its index, a bad notice 7
abbrev pub blame_of : ℕ → ℕ → Blame
blame_of names index = if ltb index names then record { number = 6; detail = index } else record { number = 7; detail = 0 }

-- what goes out of them, and the place after them
pub record Texts : Type 0 where
  pub bytes : List ℕ
  pub place : ℕ

-- so many strings from an index on; the metadata offset counts as 0
unfoldable pub texts_from : Bool → List ℕ → ℕ → ℕ → ℕ → ℕ → Reply Texts
texts_from strict file names zero index place = given (record { bytes = []; place = place })
texts_from strict file names (suc more) index place = do
  text ← text_at strict file 0 place (blame_of names index)
  rest ← texts_from strict file names more (index + 1) text.next
  given (record { bytes = entry (bytes_of file text) ++ rest.bytes; place = rest.place })

-- the names, then the notice
abbrev pub texts_of : Bool → List ℕ → ℕ → Reply Texts
texts_of strict file names = texts_from strict file names (names + 1) 0 7

-- ---- sections
-- one of the three sizes, or its refusal
abbrev pub size_at : Bool → List ℕ → ℕ → ℕ → Reply Numeral
size_at strict file place number = reading_of strict file place or_else plain number

-- 13 where a sum does not fit
abbrev pub fits : ℕ → ℕ → Reply (Unit {0})
fits bits sum = demand (ltb sum (2 ^ bits)) (plain 13)

-- offsets are sums from the header's end; third size + data offset must equal the file length
unfoldable pub sections_from : ℕ → ℕ → ℕ → ℕ → ℕ → Reply Sections
sections_from length end metadata «data» rest = do
  fits 32 (end + «data»)
  fits 64 (rest + (end + «data»))
  demand (eqb (rest + (end + «data»)) length) (refusal 11 0 (rest + (end + «data»)))
  given (record { table = end; metadata = end + metadata; «data» = end + «data» })

-- the first two sizes are kept modulo 2 ^ 32; 13 for their sum comes before the third is read
unfoldable pub sections_at : Bool → List ℕ → ℕ → Reply Sections
sections_at strict file place = do
  first ← size_at strict file place 8
  second ← size_at strict file first.place 9
  fits 32 (first.value % 2 ^ 32 + second.value % 2 ^ 32)
  third ← size_at strict file second.place 10
  sections_from (length file) third.place (first.value % 2 ^ 32) (first.value % 2 ^ 32 + second.value % 2 ^ 32) third.value

-- ---- all of it
-- the header, with the names and the notice as they go out
pub record Contents : Type 0 where
  pub head : Head
  pub bytes : List ℕ

unfoldable pub contents_by : Bool → List ℕ → Reply Contents
contents_by strict file = do
  preamble ← preamble_of file
  texts ← texts_of strict file preamble.count
  sections ← sections_at strict file texts.place
  given (record { head = record { preamble = preamble; sections = sections; strict = strict }; bytes = texts.bytes })

-- opening without its text
unfoldable pub head_by : Bool → List ℕ → Reply Head
head_by strict file = do
  contents ← contents_by strict file
  given contents.head

-- in the plain reading, and in the strict one: whatever is read with a header is read as the header was
abbrev pub head_of : List ℕ → Reply Head
head_of = head_by false

abbrev pub head_strictly : List ℕ → Reply Head
head_strictly = head_by true

-- the place after names and notice
abbrev pub place_after : Bool → List ℕ → ℕ → Reply ℕ
place_after strict file names = texts_of strict file names >>= λ texts. given texts.place
