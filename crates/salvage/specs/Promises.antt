-- What salvage promises, as statements: document 02, Q-7. Each is a theorem (docs/PROMISES.md).
use Rattle.std.specs.Prelude.{◌+◌, ◌≤◌, ◌<◌, ◌∷◌, ◌≡◌}
use Rattle.numbers.specs.Prelude.{ℕ, zero, suc, length, Bool, true, false, List, []}
use Rattle.numbers.specs.{Answer.{Answer, found, failed}, Reply.{Reply, given, refused, ◌>>=◌}, Varint.{reading_of}, declared.refusal.Refusal.{Refusal}}
use Rattle.verdict.specs.Verdict.{judged_at}
use Rattle.border.specs.{Trace.{trace_of, border_at}, declared.place.{FixedLat.{FixedLat}, FixedLon.{FixedLon}}}
use Rattle.header.specs.{Header.{head_by}, Text.{text_at, bytes_of}, declared.{header.Head.{Head}, text.Text.{Text}}}
use Rattle.salvage.specs.{Kept.{encoding_in, border_place, record_place, string_inside}, Moves.Moves.{end_of}, Salvage.{Salvaged, salvaged_of}}
use Rattle.table.specs.{Rows.{Rows, row, table_end, after, start_at, row_by, rows_in}, declared.rows.{Cursor.{Cursor}, Row.{Row}}}
use Rattle.numbers.specs.Answer as A

-- ---- `salvage_list`: the list is exactly the dropped entries with their first reasons, in the old order, and ends after an unreadable one
-- how an entry's border ends, read to its end
abbrev pub border_end : List ℕ → Head → Row → Answer (Unit {0})
border_end file head r = end_of (trace_of file (encoding_in file head) (border_at (border_place file head r)))

-- the field value at a place
abbrev pub value_at : List ℕ → Head → ℕ → Reply Text
value_at file head place = text_at head.strict file head.sections.metadata place (record { number = 15; detail = 0 })

-- so many strings, one after the other: each can be read, and "lengths included" lies wholly in the metadata section
pub data Strings (file : List ℕ) (head : Head) : ℕ → ℕ → Type 0 where
  no_more : {place : ℕ} → Strings file head zero place
  one_more : {more place : ℕ} {text : Text} → value_at file head place ≡ given text → string_inside file head place ≡ true
      → Strings file head more text.next → Strings file head (suc more) place

-- the first that is not so, and the reason: the refusal of a value that can't be read, or 72
pub data BadString (file : List ℕ) (head : Head) : ℕ → ℕ → ℕ → Type 0 where
  unread : {more place : ℕ} {why : Refusal} → value_at file head place ≡ refused why → BadString file head (suc more) place why.number
  outside : {more place : ℕ} {text : Text} → value_at file head place ≡ given text → string_inside file head place ≡ false → BadString file head (suc more) place 72
  later : {more place n : ℕ} {text : Text} → value_at file head place ≡ given text → string_inside file head place ≡ true
      → BadString file head more text.next n → BadString file head (suc more) place n

-- an entry to keep: its border closes, and its strings are as they should be
pub record Whole (file : List ℕ) (head : Head) (r : Row) : Type 0 where
  pub closes : border_end file head r ≡ found tt
  pub strings : Strings file head head.preamble.count (record_place file head r)

-- an entry to drop, and the first reason met: 71 or a refusal at its border, else that of its first bad string
pub data Spoilt (file : List ℕ) (head : Head) (r : Row) : ℕ → Type 0 where
  border_fails : border_end file head r ≡ failed → Spoilt file head r 71
  border_stops : {n : ℕ} → border_end file head r ≡ A.refused n → Spoilt file head r n
  string_spoilt : {n : ℕ} → border_end file head r ≡ found tt → BadString file head head.preamble.count (record_place file head r) n → Spoilt file head r n

-- the entry at a cursor, its six numbers as the file gives them
abbrev pub entry_at : List ℕ → Head → Cursor → Answer Row
entry_at file head at = row_by (reading_of head.strict file) at

-- the words of the list from a number on, the table being read from a cursor on up to the metadata section
pub data Listed (file : List ℕ) (head : Head) : ℕ → Cursor → List ℕ → Type 0 where
  keeps : {number : ℕ} {at : Cursor} {r : Row} {lines : List ℕ} → at.place < head.sections.metadata → entry_at file head at ≡ found r
      → Whole file head r → Listed file head (number + 1) (after r) lines → Listed file head number at lines
  drops : {number n : ℕ} {at : Cursor} {r : Row} {lines : List ℕ} → at.place < head.sections.metadata → entry_at file head at ≡ found r
      → Spoilt file head r n → Listed file head (number + 1) (after r) lines → Listed file head number at (number ∷ n ∷ lines)
  table_ends : {number : ℕ} {at : Cursor} → head.sections.metadata ≤ at.place → Listed file head number at []
  entry_fails : {number : ℕ} {at : Cursor} → at.place < head.sections.metadata → entry_at file head at ≡ failed → Listed file head number at (number ∷ 70 ∷ (number + 1) ∷ 73 ∷ [])
  entry_stops : {number n : ℕ} {at : Cursor} → at.place < head.sections.metadata → entry_at file head at ≡ A.refused n → Listed file head number at (number ∷ n ∷ (number + 1) ∷ 73 ∷ [])

-- all of the list
abbrev pub ListOf : List ℕ → Head → List ℕ → Type 0
ListOf file head lines = Listed file head 0 (start_at head.sections.table) lines

-- ---- `salvage_kept`: the new file's entries are exactly the kept ones, in order
-- the strings of a record
unfoldable pub values_from : List ℕ → Head → ℕ → ℕ → Reply (List (List ℕ))
values_from file head zero place = given []
values_from file head (suc more) place = do
  text ← text_at head.strict file head.sections.metadata place (record { number = 15; detail = 0 })
  rest ← values_from file head more text.next
  given (bytes_of file text ∷ rest)

-- an entry with its old box, metadata id and strings, whose border gives the verdict and distance it gave before, at every location
pub record KeptEntry (file file' : List ℕ) (head head' : Head) (old new : Row) : Type 0 where
  pub box : new.bounds ≡ old.bounds
  pub id : new.metadata ≡ old.metadata
  pub strings : values_from file' head' head'.preamble.count (record_place file' head' new) ≡ values_from file head head.preamble.count (record_place file head old)
  pub border : (lat : FixedLat) (lon : FixedLon) (asked : Bool) (least : ℕ)
      → judged_at file' (encoding_in file' head') (border_place file' head' new) lat lon asked least ≡ judged_at file (encoding_in file head) (border_place file head old) lat lon asked least

pub data KeptAs (file file' : List ℕ) (head head' : Head) : List Row → Rows → Type 0 where
  none : KeptAs file file' head head' [] table_end
  some : {old new : Row} {olds : List Row} {news : Rows} → KeptEntry file file' head head' old new → KeptAs file file' head head' olds news → KeptAs file file' head head' (old ∷ olds) (row new news)

-- the result opens strictly (`salvaged_strict`), and its table is that of the kept entries
pub record KeptFile (file : List ℕ) (head : Head) (new : List ℕ) (kept : List Row) : Type 0 where
  pub new_head : Head
  pub opens : head_by true new ≡ given new_head
  pub entries : KeptAs file new head new_head kept (rows_in new new_head)

abbrev pub SalvageKept : Type 0
SalvageKept = (file : List ℕ) (words room : ℕ) (head : Head) (s : Salvaged) → head_by true file ≡ given head → salvaged_of file words room ≡ given s → KeptFile file head s.file s.kept

-- ---- `salvage_again`: salvaging the result gives it back, with an empty list
pub record SameAgain (s again : Salvaged) : Type 0 where
  pub same_file : again.file ≡ s.file
  pub no_lines : again.lines ≡ []
  pub same_count : length again.kept ≡ length s.kept

pub record Again (s : Salvaged) (answer : Reply Salvaged) : Type 0 where
  pub again : Salvaged
  pub answered : answer ≡ given again
  pub same : SameAgain s again

abbrev pub SalvageAgain : Type 0
SalvageAgain = (file : List ℕ) (words words' room room' : ℕ) (s : Salvaged) → salvaged_of file words room ≡ given s → length s.file ≤ room' → Again s (salvaged_of s.file words' room')
