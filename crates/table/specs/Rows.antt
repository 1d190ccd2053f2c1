-- A table is a trace of rows, as a border is one of points: each entry with its place, its number and the sums up to it, and how the table ends.
use Rattle.std.specs.Prelude.{if◌then◌else◌, ◌+◌, ◌-◌, ◌%◌, ◌^◌, ◌∷◌}
use Rattle.numbers.specs.{Answer.{Answer, found, ◌>>=◌}, Point.{low32, half_of}, Prelude.{ℕ, zero, suc, ltb, List, []}, Varint.{Numeral, reading_of}}
use Rattle.table.specs.{Table.{entry_by}, declared.{rows.{Cursor.{Cursor}, Row.{Row}}, table.Entry.{Entry}}}
use Rattle.header.specs.declared.header.Head.{Head}
use Rattle.numbers.specs.Answer as A

-- the row of an entry: the metadata id moves by its signed number and the border's place by its number, modulo 2 ^ 32
abbrev pub row_of : Cursor → Entry → Row
row_of at entry = record {
  place = at.place;
  id = at.id;
  metadata = (at.metadata + low32 (half_of entry.metadata)) % 2 ^ 32;
  polygon = (at.polygon + entry.polygon) % 2 ^ 32;
  bounds = entry.bounds;
  next = entry.next;
}

-- where the table goes on after a row
abbrev pub after : Row → Cursor
after row = record { place = row.next; id = (row.id + 1) % 2 ^ 32; metadata = row.metadata; polygon = row.polygon }

-- the table's first place
abbrev pub start_at : ℕ → Cursor
start_at place = record { place = place; id = 0; metadata = 0; polygon = 0 }

-- rows in table order, up to the table's end, an entry that can't be read, or one that is refused
pub data Rows : Type 0 where
  row : Row → Rows → Rows
  table_end : Rows
  unreadable : Rows
  refused : ℕ → Rows

-- the table that has these rows and ends behind the last
unfoldable pub as_rows : List Row → Rows
as_rows [] = table_end
as_rows (r ∷ rows) = row r (as_rows rows)

-- a row is followed by those after it
unfoldable pub rows_then : Answer Row → (Cursor → Rows) → Rows
rows_then (found r) rest = row r (rest (after r))
rows_then A.failed rest = unreadable
rows_then (A.refused n) rest = refused n

-- over the reading of a number at a place, and the table's end
module _ (read : ℕ → Answer Numeral) where
  -- the row at a cursor
  unfoldable pub row_by : Cursor → Answer Row
  row_by at = entry_by read at.place >>= λ entry. found (row_of at entry)

  -- one row after the other; that they are never used up is the law `rows_step`
  unfoldable pub rows_within : ℕ → ℕ → Cursor → Rows
  rows_within zero end at = unreadable
  rows_within (suc more) end at = if ltb at.place end then rows_then (row_by at) (rows_within more end) else table_end

  -- the rows from a cursor on; an entry begins before the end, and may run past it
  unfoldable pub rows_from : ℕ → Cursor → Rows
  rows_from end at = rows_within (suc (end - at.place)) end at

-- the rows of a file's table, which ends where the metadata begins
unfoldable pub rows_in : List ℕ → Head → Rows
rows_in file head = rows_from (reading_of head.strict file) head.sections.metadata (start_at head.sections.table)
