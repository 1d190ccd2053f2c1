-- A table read strictly (request Q-6): the same rows up to one that is refused 31, and behind an early stop the same mark. Assumes nothing.
use Rattle.numbers.proofs.Prelude.{ℕ, zero, suc, ◌-◌, ◌≤◌, lt-ltb, ltb, length, Bool, true, false, List, ◌≡◌, refl, ap, arith}
use Rattle.numbers.{proofs.Readings.{Strictly, cut, same, then_strictly, reading_strictly}, specs.{Answer.{Answer, found, failed, if◌then◌else◌, ◌>>=◌}, Varint.{reading_of}}}
use Rattle.border.specs.declared.place.Point.{Point}
use Rattle.table.proofs.{Beside.{Beside, held, gone, none, entry_beside}, rest.Remaining.{either_marked}}
use Rattle.table.specs.{Rest.{rest_mark}, Rows.{Rows, table_end, unreadable, row_of, after, rows_then, row_by, rows_within, rows_from}, Table.{steps_by, entry_by, holds}, declared.rows.Cursor.{Cursor}}
use Rattle.table.specs.declared.{rows.Row.{Row}, table.Entry.{Entry}}
use Rattle.numbers.specs.Answer as A
use Rattle.table.specs.Rows as T

-- strict rows beside the plain ones; a mark says the same from each row on
pub data StrictRows (mark : Rows → ℕ) : Rows → Rows → Type 0 where
  row : {r : Row} {strict plain : Rows} → mark (T.row r strict) ≡ mark (T.row r plain) → StrictRows mark strict plain → StrictRows mark (T.row r strict) (T.row r plain)
  cut_off : {plain : Rows} → StrictRows mark (T.refused 31) plain
  at_end : StrictRows mark table_end table_end
  unread : StrictRows mark unreadable unreadable
  stopped : {n : ℕ} → StrictRows mark (T.refused n) (T.refused n)

module _ (file : List ℕ) (end : ℕ) (inside : end ≤ length file) (fix : Point) where
  abbrev rows_by : Bool → ℕ → Cursor → Rows
  rows_by strict more at = rows_within (reading_of strict file) more end at

  entry_strictly : (place : ℕ) → Strictly (entry_by (reading_of true file) place) (entry_by (reading_of false file) place)
  unfolding entry_by steps_by
  entry_strictly place =
      then_strictly (reading_strictly file place) (λ a. then_strictly (reading_strictly file a.place) (λ b. then_strictly (reading_strictly file b.place)
      (λ c. then_strictly (reading_strictly file c.place) (λ d. then_strictly (reading_strictly file d.place) (λ metadata. then_strictly
      (reading_strictly file metadata.place) (λ polygon. same))))))

  abbrev Marked : ℕ → Type 0
  Marked more = (at : Cursor) → rest_mark end fix (rows_by true more at) ≡ rest_mark end fix (rows_by false more at)

  -- a row in which a number is cut runs past the table's end in the plain reading
  entry_marked : (more : ℕ) (at : Cursor) → Marked more → {strict plain : Answer Entry} → Beside file (λ (entry : Entry). entry.next) strict plain
      → rest_mark end fix (rows_then (strict >>= λ entry. found (row_of at entry)) (rows_by true more)) ≡ rest_mark end fix (rows_then (plain >>= λ entry. found (row_of at entry)) (rows_by false more))
  unfolding rows_then rest_mark
  entry_marked more at rest (held {a = entry} h) = ap (λ (m : ℕ). if ltb end entry.next then 2 else (if holds entry.bounds fix then 4 else m)) (rest (after (row_of at entry)))
  entry_marked more at rest (gone {plain = found entry} h) = rw (lt-ltb end entry.next (omega (arith, h, inside))) refl
  entry_marked more at rest (gone {plain = failed} h) = refl
  entry_marked more at rest (gone {plain = A.refused n} h) = refl
  entry_marked more at rest none = refl

  marked : (more : ℕ) → Marked more
  unfolding rows_within row_by reading_of
  marked zero at = refl
  marked (suc more) at = either_marked end fix (ltb at.place end) _ _ (entry_marked more at (marked more) (entry_beside file at.place))

  abbrev Same : ℕ → Type 0
  Same more = (at : Cursor) → StrictRows (rest_mark end fix) (rows_by true more at) (rows_by false more at)

  entry_rows : (more : ℕ) (at : Cursor) → Same more → {strict plain : Answer Entry} → Strictly strict plain
      → StrictRows (rest_mark end fix) (rows_then (strict >>= λ entry. found (row_of at entry)) (rows_by true more)) (rows_then (plain >>= λ entry. found (row_of at entry)) (rows_by false more))
  unfolding rows_then rest_mark
  entry_rows more at rest cut = cut_off
  entry_rows more at rest (same {answer = found entry}) =
      row (ap (λ (m : ℕ). if ltb end entry.next then 2 else (if holds entry.bounds fix then 4 else m)) (marked more (after (row_of at entry)))) (rest (after (row_of at entry)))
  entry_rows more at rest (same {answer = failed}) = unread
  entry_rows more at rest (same {answer = A.refused n}) = stopped

  either_rows : (test : Bool) {strict plain : Rows} → StrictRows (rest_mark end fix) strict plain → StrictRows (rest_mark end fix) (if test then strict else table_end) (if test then plain else table_end)
  either_rows true h = h
  either_rows false h = at_end

  within_strictly : (more : ℕ) → Same more
  unfolding rows_within row_by
  within_strictly zero at = unread
  within_strictly (suc more) at = either_rows (ltb at.place end) (entry_rows more at (within_strictly more) (entry_strictly at.place))

  pub rows_strictly : (at : Cursor) → StrictRows (rest_mark end fix) (rows_from (reading_of true file) end at) (rows_from (reading_of false file) end at)
  unfolding rows_from
  rows_strictly at = within_strictly (suc (end - at.place)) at
