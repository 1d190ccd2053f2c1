-- Which entries of a damaged file are kept, and why the others are dropped: document 02, Q-7.
use Rattle.std.specs.Prelude.{◌+◌, ◌-◌, ◌%◌, ◌^◌, ◌<◌, ◌&&◌, ◌∷◌, ◌≡◌, if◌then◌else◌, Option, Some, None, is_ok}
use Rattle.numbers.specs.Prelude.{ℕ, zero, suc, ltb, leb, Bool, true, false, List, []}
use Rattle.numbers.specs.{Answer.{Answer, found, failed}, Reply.{Reply, given, refused, plain, demand, ◌or_else◌, ◌>>=◌, ◌>>◌}, Varint.{Numeral, reading_of}}
use Rattle.border.specs.{Encoding.{version_of, encoded_by}, Trace.{trace_of, border_at}, declared.reader.Encoding.{Encoding}}
use Rattle.header.specs.{Text.{text_at}, declared.header.Head.{Head}}
use Rattle.salvage.specs.Moves.Moves.{end_of}
use Rattle.table.specs.{Rows.{Rows, row, table_end, unreadable, rows_from, after}, declared.rows.{Cursor.{Cursor}, Row.{Row}}}
use Rattle.numbers.specs.Answer as A
use Rattle.table.specs.Rows as T

-- the bytes from one place up to another lie in the metadata section
abbrev pub in_section : Head → ℕ → ℕ → Bool
in_section head from to = leb head.sections.metadata from && leb to head.sections.«data»

-- a row is kept, or gives a line of its number and its reason
abbrev pub kept_if : Reply (Unit {0}) → Row → List Row → List Row
kept_if (given good) r rows = r ∷ rows
kept_if (refused why) r rows = rows

abbrev pub line_if : Reply (Unit {0}) → ℕ → List ℕ → List ℕ
line_if (given good) number lines = lines
line_if (refused why) number lines = number ∷ why.number ∷ lines

module _ (file : List ℕ) (head : Head) where
  -- ---- the border
  -- how the file's borders are encoded
  abbrev pub encoding_in : Encoding
  encoding_in = encoded_by head.strict (version_of head.preamble.version) head.sections.«data»

  -- where a row's border begins
  abbrev pub border_place : Row → ℕ
  border_place r = (head.sections.«data» + r.polygon) % 2 ^ 32

  -- its border is read to the end: 71 where it fails, else 12, 13 or 31
  unfoldable pub border_good : Row → Reply (Unit {0})
  border_good r = end_of (trace_of file encoding_in (border_at (border_place r))) or_else plain 71

  -- ---- the strings
  -- a length that was read at a place, and the bytes behind it
  abbrev pub span_in : ℕ → Answer Numeral → Bool
  span_in place (found number) = in_section head place (number.place + number.value)
  span_in place failed = false
  span_in place (A.refused n) = false

  unfoldable pub span_inside : ℕ → Bool
  span_inside place = span_in place (reading_of head.strict file place)

  -- a string at a place, "lengths included": a remote one has two
  abbrev pub string_in : ℕ → Answer Numeral → Bool
  string_in place (found number) =
      if ltb number.value 256 then in_section head place (number.place + number.value)
      else (in_section head place number.place && span_inside ((head.sections.metadata + number.value - 256) % 2 ^ 32))
  string_in place failed = false
  string_in place (A.refused n) = false

  unfoldable pub string_inside : ℕ → Bool
  string_inside place = string_in place (reading_of head.strict file place)

  -- a field value, read and then placed: 15 where it is bad, 72 where it is outside; and the place of the next
  unfoldable pub field_good : ℕ → Reply ℕ
  field_good place = do
    text ← text_at head.strict file head.sections.metadata place (record { number = 15; detail = 0 })
    demand (string_inside place) (plain 72)
    given text.next

  -- so many of them, one after the other
  unfoldable pub fields_good : ℕ → ℕ → Reply (Unit {0})
  fields_good zero place = given tt
  fields_good (suc more) place = field_good place >>= fields_good more

  -- where a row's record begins
  abbrev pub record_place : Row → ℕ
  record_place r = (head.sections.metadata + r.metadata) % 2 ^ 32

  -- ---- the entry: its six numbers were read, then its border, then its strings; "first reason met"
  unfoldable pub entry_good : Row → Reply (Unit {0})
  entry_good r = do
    border_good r
    fields_good head.preamble.count (record_place r)

  -- "in the old order"
  unfoldable pub kept_of : Rows → List Row
  kept_of (row r rows) = kept_if (entry_good r) r (kept_of rows)
  kept_of table_end = []
  kept_of unreadable = []
  kept_of (T.refused n) = []

  -- "a list of dropped entries, two words each"; "after an unreadable entry a single line 73 with the next number ends the list"
  unfoldable pub lines_from : ℕ → Rows → List ℕ
  lines_from number (row r rows) = line_if (entry_good r) number (lines_from (number + 1) rows)
  lines_from number table_end = []
  lines_from number unreadable = number ∷ 70 ∷ (number + 1) ∷ 73 ∷ []
  lines_from number (T.refused n) = number ∷ n ∷ (number + 1) ∷ 73 ∷ []

-- ---- walking the table
-- the rows kept from a cursor on
unfoldable pub kept_from : List ℕ → Head → Cursor → List Row
kept_from file head at = kept_of file head (rows_from (reading_of head.strict file) head.sections.metadata at)

-- the first of them, what follows it, and that less of the table is left
pub record LedTo (file : List ℕ) (head : Head) (at : Cursor) (r : Row) : Type 0 where
  pub more : kept_from file head at ≡ r ∷ kept_from file head (after r)
  pub good : entry_good file head r ≡ given tt
  pub fewer : head.sections.metadata - r.next < head.sections.metadata - at.place

abbrev pub FirstKept : List ℕ → Head → Cursor → Option Row → Type 0
FirstKept file head at (Some r) = LedTo file head at r
FirstKept file head at None = kept_from file head at ≡ []

-- it is kept
abbrev pub goodness : Reply (Unit {0}) → Bool
goodness = is_ok
