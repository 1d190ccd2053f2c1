-- The search, as document 01 has it: a fold over the rows of the table.
use Rattle.std.specs.Prelude.{if◌then◌else◌, ◌+◌, ◌-◌, ◌%◌, ◌^◌, ◌∷◌, ◌++◌, ◌≡◌}
use Rattle.numbers.specs.{Lists.{padded}, Prelude.{ℕ, eqb, ltb, length, Bool, List, []}, Reply.{Reply, given, plain}}
use Rattle.border.specs.{Encoding.{version_of, encoded_by}, declared.place.Point.{Point}}
use Rattle.verdict.specs.{Verdict.{Judgement, reached, judged_at}, declared.step.Verdict.{Verdict, TheVariants.{NotInZone, InZone, InExcludedZone, OnBorderVertex, OnBorderSegment}}}
use Rattle.table.specs.{Hits.{hit_of, words, Real}, Rest.{rest_mark}, Rows.{Rows, row, table_end, unreadable, rows_in}, Table.{is_above, holds}, declared.{hits.Hit.{Hit}, rows.Row.{Row}}}
use Rattle.table.specs.declared.search.{Ended.{Ended}, Turn.{Turn, TheVariants.{On, Met, Stopped, Refused}}}
use Rattle.header.specs.declared.header.Head.{Head}
use Rattle.verdict.specs.Verdict as J
use Rattle.numbers.specs.Reply as R
use Rattle.table.specs.Rows as T

-- a hit's kind, in `ZoneMatchKind` order; a location that is not in the zone is no hit
abbrev pub kind_of : Verdict → ℕ
kind_of NotInZone = 0
kind_of InZone = 1
kind_of InExcludedZone = 2
kind_of OnBorderVertex = 3
kind_of OnBorderSegment = 4

-- the hit of a row: the row's number, its metadata id, the kind, and where its entry begins; a place of a table is below 2 ^ 32 (`place_is_the_entry`)
abbrev pub row_hit : Row → ℕ → Hit
row_hit r kind = hit_of r.id r.metadata kind (r.place % 2 ^ 32)

-- what a row whose border was judged does to the search: a border that failed stops it with mark 3
unfoldable pub judged_turn : Row → Judgement → Turn
judged_turn r (reached verdict least) = if eqb (kind_of verdict) 0 then On least else Met (row_hit r (kind_of verdict)) least
judged_turn r (J.failed least) = Stopped 3 least
judged_turn r (J.refused n) = Refused n

-- the hits in the order in which they were met, the end mark, the least squared distance
pub record Found : Type 0 where
  pub hits : List Hit
  pub mark : ℕ
  pub least : ℕ

abbrev pub ended : List Hit → ℕ → ℕ → Reply Found
ended hits mark least = given (record { hits = hits; mark = mark; least = least })

-- 17 where a hit has no slot
abbrev pub after_turn : Turn → List Hit → ℕ → (ℕ → List Hit → Reply Found) → Reply Found
after_turn (On least) hits room go = go least hits
after_turn (Met hit least) hits room go = if ltb (length hits) room then go least (hits ++ hit ∷ []) else R.refused (plain 17)
after_turn (Stopped mark least) hits room go = ended hits mark least
after_turn (Refused n) hits room go = R.refused (plain n)

-- over the judging of a border at a place of the data with the least distance so far
module _ (judge : ℕ → ℕ → Judgement) (fix : Point) where
  -- where a row's box holds the location its border is judged
  unfoldable pub row_turn : Row → ℕ → Turn
  row_turn r least = if holds r.bounds fix then judged_turn r (judge r.polygon least) else On least

  -- the search of the rows of a table with this end, after these hits and with room for so many: mark 1 at the table's end, mark 2 at an entry that
  -- can't be read; a row whose lower latitude is above the location stops it, with the mark that the rest of the table gives
  unfoldable pub seek : ℕ → ℕ → Rows → ℕ → List Hit → Reply Found
  seek end room (row r rows) least hits =
      if is_above r.bounds fix then ended hits (rest_mark end fix (row r rows)) least else after_turn (row_turn r least) hits room (seek end room rows)
  seek end room table_end least hits = ended hits 1 least
  seek end room unreadable least hits = ended hits 2 least
  seek end room (T.refused n) least hits = R.refused (plain n)

-- no distance yet
abbrev pub farthest : ℕ
farthest = 2 ^ 64 - 1

-- ---- in a file
-- the border at a place of the data, counted modulo 2 ^ 32
abbrev pub judge_in : List ℕ → Head → Point → Bool → ℕ → ℕ → Judgement
judge_in file head fix asked polygon least =
    let start = head.sections.«data» in
    judged_at file (encoded_by head.strict (version_of head.preamble.version) start) ((start + polygon) % 2 ^ 32) fix.lat fix.lon asked least

-- the search of some rows, with so many slots for hits
abbrev pub searched_rows : List ℕ → Head → Point → Bool → ℕ → Rows → Reply Found
searched_rows file head fix asked room rows = seek (judge_in file head fix asked) fix head.sections.metadata room rows farthest []

-- of the file's table
unfoldable pub searched : List ℕ → Head → Point → Bool → ℕ → Reply Found
searched file head fix asked room = searched_rows file head fix asked room (rows_in file head)

-- ---- the code's answer
-- the hits stand in so many words, zeros after them
pub record Sought (n : ℕ) (ws : List ℕ) (found : Found) (ended : Ended) : Type 0 where
  pub said : ended ≡ record { count = length found.hits; mark = found.mark; least = found.least }
  pub kept : ws ≡ padded n (words found.hits)
  pub real : Real found.hits
