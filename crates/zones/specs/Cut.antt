-- Request Q-6: which numbers the plain walk meets that the file's end cuts. Each definition follows the plain walk, up to where it is refused or ends.
use Rattle.std.specs.Prelude.{◌+◌, ◌-◌, ◌/◌, ◌%◌, ◌^◌, ◌≤◌, ◌||◌, ◌∷◌, ◌++◌, if◌then◌else◌}
use Rattle.numbers.specs.Prelude.{ℕ, zero, suc, eqb, ltb, pos, length, get_or, Bool, true, false, List, []}
use Rattle.numbers.specs.{Answer.{Answer, found, failed, refused}, Reply.{Reply, given}, Varint.{Numeral, is_complete, reading_of}}
use Rattle.verdict.specs.{Step.{Step}, Verdict.{Last, none, after, passing}, declared.step.Tally.{Tally}}
use Rattle.border.specs.declared.reader.Turn.{Turn, TheVariants.{Gives as gives, Again as again, Ended as ends}}
use Rattle.border.specs.{Encoding.{version_of, encoded_by}, Reader.{turn_of}, Trace.{Given, reaches, ended, turns, next_point, border_at}, declared.place.Point.{Point}}
use Rattle.border.specs.declared.reader.{Reader.{Reader}, Run.{Run, TheVariants.{Idle, Forward, Backward}}, Version.{Version, TheVariants.{Plain, Packed}}}
use Rattle.header.specs.{Field.{field_at}, Header.{preamble_of, blame_of, texts_of, size_at, head_of}, Text.{text_at}, declared.header.Head.{Head}}
use Rattle.table.specs.{Find.{is_precision, fix_of, matched_with}, Hits.{width}, Rows.{start_at, row_by}, Search.{farthest, row_turn, judge_in}, Table.{is_above, holds}, declared.hits.Hit.{Hit}}
use Rattle.table.specs.declared.{location.Location.{Location}, rows.Cursor.{Cursor}}
use Rattle.zones.specs.Fields.{fields_place, fields_from}
use Rattle.verdict.specs.Step as S
use Rattle.numbers.specs.Reply as R
use Rattle.table.specs.Rows as T
use Rattle.table.specs.declared.search.Turn as K
use Rattle.table.specs.declared.search.Turn.TheVariants as N

-- ---- a number
-- what a walk meets behind a step: only where the step found something
abbrev pub where_found : {A : Type 0} → Answer A → (A → Bool) → Bool
where_found (found a) met = met a
where_found failed met = false
where_found (refused n) met = false

abbrev pub where_given : {A : Type 0} → Reply A → (A → Bool) → Bool
where_given (given a) met = met a
where_given (R.refused why) met = false

-- the plain reading finds a number at a place, and it is not complete
unfoldable pub cut_at : List ℕ → ℕ → Bool
cut_at file place = where_found (reading_of false file place) (λ number. if is_complete file number then false else true)

-- a number is read at a place: it is cut, or a later one is
abbrev pub cut_from : List ℕ → ℕ → (Numeral → Bool) → Bool
cut_from file place later = cut_at file place || where_found (reading_of false file place) later

-- so many numbers, one behind the other
unfoldable pub cut_in : ℕ → List ℕ → ℕ → Bool
cut_in zero file place = false
cut_in (suc more) file place = cut_from file place (λ number. cut_in more file number.place)

-- the file ends inside a number: its last byte is 128 or more
abbrev pub EndsCut : List ℕ → Type 0
EndsCut file = 128 ≤ get_or file (length file - 1) 0

module _ (file : List ℕ) where
  -- ---- opening
  -- a string's length, and a remote one's second length
  unfoldable pub string_cut : ℕ → ℕ → Bool
  string_cut metadata place = cut_from file place (λ number. if ltb number.value 256 then false else cut_at file ((metadata + number.value - 256) % 2 ^ 32))

  -- names and notice
  unfoldable pub texts_cut : ℕ → ℕ → ℕ → ℕ → Bool
  texts_cut names zero index place = false
  texts_cut names (suc more) index place = string_cut 0 place || where_given (text_at false file 0 place (blame_of names index)) (λ text. texts_cut names more (index + 1) text.next)

  -- the three sizes; 13 for the first two comes before the third is read
  unfoldable pub sections_cut : ℕ → Bool
  sections_cut place =
      cut_at file place || where_given (size_at false file place 8) λ first. cut_at file first.place || where_given (size_at false file first.place 9) λ second.
      if ltb (first.value % 2 ^ 32 + second.value % 2 ^ 32) (2 ^ 32) then cut_at file second.place else false

  -- the plain opening meets a number that is cut
  unfoldable pub opening_cut : Bool
  opening_cut = where_given (preamble_of file) λ preamble. texts_cut preamble.count (preamble.count + 1) 0 7 || where_given (texts_of false file preamble.count) λ texts. sections_cut texts.place

  -- ---- a border
  -- version 0: the count, and pairs
  unfoldable pub plain_cut : Reader → Bool
  plain_cut s = if s.begun then cut_in 2 file s.place else cut_from file s.place (λ count. if eqb count.value 0 then false else cut_in 2 file count.place)

  -- version 1, behind a 0: the marker, and a reference's two numbers
  unfoldable pub marker_cut : ℕ → Bool
  marker_cut place = cut_from file place (λ mark. if eqb mark.value 0 then false else if eqb mark.value 1 then cut_in 2 file mark.place else false)

  -- version 1; a number that is read backward is always complete (`backward_complete`)
  unfoldable pub packed_cut : Run → ℕ → Bool
  packed_cut Idle place = cut_from file place (λ number. if eqb number.value 0 then marker_cut number.place else false)
  packed_cut (Forward next end) place = cut_at file next
  packed_cut (Backward next end) place = false

  unfoldable pub turn_cut : Version → Reader → Bool
  turn_cut Plain s = if s.closed then false else plain_cut s
  turn_cut Packed s = if s.closed then false else packed_cut s.run s.place

  abbrev pub again_cut : (Reader → Bool) → Turn → Bool
  again_cut later (gives s) = false
  again_cut later (again s) = later s
  again_cut later ends = false

  -- the turns up to the next point
  unfoldable pub next_cut : ℕ → Version → ℕ → Reader → Bool
  next_cut zero version base s = false
  next_cut (suc more) version base s = turn_cut version s || where_found (turn_of false file version base s) (again_cut (next_cut more version base))

  -- the judge goes on, or has decided
  abbrev pub step_cut : Step Tally → (Tally → Bool) → Bool
  step_cut (S.found tally) later = later tally
  step_cut (S.meets verdict) later = false
  step_cut (S.refused n) later = false

  abbrev pub point_cut : (Reader → Bool) → Given → Bool
  point_cut later (reaches s) = later s
  point_cut later ended = false

  -- the points up to where the judge has decided
  unfoldable pub judge_cut : ℕ → Version → ℕ → Point → Bool → Last → Tally → Reader → Bool
  judge_cut zero version base fix asked last tally s = false
  judge_cut (suc more) version base fix asked last tally s =
      next_cut (turns file) version base s || where_found (next_point file (encoded_by false version base) s) (point_cut λ next. step_cut (passing fix asked last next.point tally)
      λ later. judge_cut more version base fix asked (after next.point) later next)

  -- ---- lookup
  -- the search goes on behind a row, or has stopped
  abbrev pub rows_cut : K.Turn → List Hit → ℕ → (ℕ → List Hit → Bool) → Bool
  rows_cut (N.On least) hits slots later = later least hits
  rows_cut (N.Met hit least) hits slots later = if ltb (length hits) slots then later least (hits ++ hit ∷ []) else false
  rows_cut (N.Stopped mark least) hits slots later = false
  rows_cut (N.Refused n) hits slots later = false

  module _ (head : Head) where
    abbrev pub border_cut : Point → Bool → ℕ → ℕ → Bool
    border_cut fix asked polygon least =
        let start = head.sections.«data» in
        judge_cut (turns file) (version_of head.preamble.version) start fix asked none (record { winding = pos 0; least = least }) (border_at ((start + polygon) % 2 ^ 32))

    -- the rows from a cursor on: an entry's six numbers, then the border of a row whose box holds the location. An early stop ends it: behind that a cut number is mark 2 in both readings.
    unfoldable pub seek_cut : Point → Bool → ℕ → ℕ → Cursor → ℕ → List Hit → Bool
    seek_cut fix asked slots zero at least hits = false
    seek_cut fix asked slots (suc more) at least hits =
        if ltb at.place head.sections.metadata
        then (cut_in 6 file at.place || where_found (row_by (reading_of false file) at) λ r. if is_above r.bounds fix then false
        else ((if holds r.bounds fix then border_cut fix asked r.polygon least else false)
        || rows_cut (row_turn (judge_in file head fix asked) fix r least) hits slots (seek_cut fix asked slots more (T.after r))))
        else false

    -- the fields of a match, and of all matches
    unfoldable pub fields_cut : ℕ → ℕ → ℕ → ℕ → List ℕ → Bool
    fields_cut room zero tag place text = false
    fields_cut room (suc more) tag place text =
        string_cut head.sections.metadata place
        || where_given (field_at false file head.sections.metadata place tag (room - length text)) λ field. fields_cut room more (tag + 1) field.next (text ++ field.bytes)

    unfoldable pub matches_cut : ℕ → List Hit → List ℕ → Bool
    matches_cut room [] text = false
    matches_cut room (match ∷ matches) text =
        let place = fields_place head match.metadata in
        fields_cut room head.preamble.count 0 place text || where_given (fields_from file head room head.preamble.count 0 place text) (matches_cut room matches)

    -- in a file with this header
    unfoldable pub zones_cut : Location → Bool → ℕ → ℕ → Bool
    zones_cut location asked n room =
        (if is_precision head.preamble.precision
        then seek_cut (fix_of location head.preamble.precision) asked (n / width) (suc (head.sections.metadata - head.sections.table)) (start_at head.sections.table) farthest []
        else false)
        || where_given (matched_with file head location asked (n / width)) λ found. matches_cut room found.matches []

  -- the plain lookup meets a number that is cut
  unfoldable pub lookup_cut : Location → Bool → ℕ → ℕ → Bool
  lookup_cut location asked n room = opening_cut || where_given (head_of file) λ head. zones_cut head location asked n room
