-- What the rest of a table says behind an early stop, as request Q-1 has it.
use Rattle.std.specs.Prelude.{if◌then◌else◌}
use Rattle.numbers.specs.{Answer.{Answer, found, failed, refused, ◌>>=◌}, Prelude.{ℕ, ltb, Bool, false}, Varint.{Numeral}}
use Rattle.border.specs.declared.place.Point.{Point}
use Rattle.table.specs.{Rows.{Rows, row, table_end, unreadable}, Table.{bounds_of, holds}}
use Rattle.table.specs.Rows as T

-- the rows from the stopping one on: mark 2 at the first that can't be read or runs past the table's end, mark 4 at the first that holds the location,
-- whichever comes first; mark 1 where every row can be read, none runs past and none holds it
unfoldable pub rest_mark : ℕ → Point → Rows → ℕ
rest_mark end fix (row r rows) = if ltb end r.next then 2 else (if holds r.bounds fix then 4 else rest_mark end fix rows)
rest_mark end fix table_end = 1
rest_mark end fix unreadable = 2
rest_mark end fix (T.refused n) = 2

-- ---- what this crate's own functions go by, over the reading of a number at a place
module _ (read : ℕ → Answer Numeral) where
  -- the last of five numbers one after the other
  unfoldable pub five_by : ℕ → Answer Numeral
  five_by place = do
    b ← read place
    c ← read b.place
    d ← read c.place
    e ← read d.place
    read e.place

  -- whether the box at a place holds the location
  unfoldable pub held_by : ℕ → Point → Answer Bool
  held_by place fix = do
    a ← read place
    b ← read a.place
    c ← read b.place
    d ← read c.place
    found (holds (bounds_of a.value b.value c.value d.value) fix)

-- a box that can't be read holds nothing
abbrev pub is_held : Answer Bool → Bool
is_held (found held) = held
is_held failed = false
is_held (refused n) = false
