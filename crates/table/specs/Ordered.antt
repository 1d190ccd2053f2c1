-- Tables in order, and tables whose boxes are those of their borders' points: what a built file has.
use Rattle.std.specs.Prelude.{◌+◌, ◌%◌, ◌^◌, ◌∷◌, ◌≡◌}
use Rattle.numbers.specs.{Prelude.{ℕ, ltb, ℤ, le_z, true, false, List, []}, Reply.{Reply, plain}}
use Rattle.border.specs.{Box.{Box, box_of}, Encoding.{version_of}, Written.{Stands}, declared.place.Point.{Point}}
use Rattle.verdict.specs.Verdict.{Judgement}
use Rattle.table.specs.{Rows.{Rows, row, table_end, unreadable}, Search.{Found, ended, after_turn, judged_turn}, Table.{holds}, declared.{hits.Hit.{Hit}, rows.Row.{Row}, table.Bounds.{Bounds}}}
use Rattle.header.specs.declared.header.Head.{Head}
use Rattle.numbers.specs.Reply as R
use Rattle.table.specs.Rows as T

-- a row's lower latitude
abbrev pub lowest : Row → ℤ
lowest r = r.bounds.min_lat.0

-- rows in order up to the table's end, none below a floor: no lower latitude is below the one before it, and no row runs past the end
pub data Ordered (end : ℕ) : ℤ → Rows → Type 0 where
  ends : {floor : ℤ} → Ordered end floor table_end
  next : {floor : ℤ} {r : Row} {rows : Rows} → le_z floor (lowest r) ≡ true → ltb end r.next ≡ false → Ordered end (lowest r) rows → Ordered end floor (row r rows)

-- the same row, whatever follows it
abbrev pub followed_at : Row → ℕ → Row
followed_at r k = record { place = r.place; id = r.id; metadata = r.metadata; polygon = r.polygon; bounds = r.bounds; next = k }

-- some rows of a table, in its order, whatever follows each: the box of each row that is left out does not hold the location
pub data Thinned (fix : Point) : Rows → Rows → Type 0 where
  done : Thinned fix table_end table_end
  kept : {r : Row} (k : ℕ) {rows some : Rows} → Thinned fix rows some → Thinned fix (row r rows) (row (followed_at r k) some)
  left : {r : Row} {rows some : Rows} → holds r.bounds fix ≡ false → Thinned fix rows some → Thinned fix (row r rows) some

-- a box as a table has it
abbrev pub bounds_around : Box → Bounds
bounds_around box = record { min_lat = box.low.lat; min_lon = box.low.lon; max_lat = box.high.lat; max_lon = box.high.lon }

-- a row leads to a border of these points, and its box is theirs
pub record Boxed (file : List ℕ) (head : Head) (r : Row) (points : List Point) : Type 0 where
  pub border : Stands (version_of head.preamble.version) file head.sections.«data» ((head.sections.«data» + r.polygon) % 2 ^ 32) points
  pub box : r.bounds ≡ bounds_around (box_of points)

-- each row leads to its border, one after the other
pub data AllBoxed (file : List ℕ) (head : Head) : Rows → List (List Point) → Type 0 where
  none : AllBoxed file head table_end []
  one : {r : Row} {rows : Rows} {points : List Point} {borders : List (List Point)} → Boxed file head r points → AllBoxed file head rows borders → AllBoxed file head (row r rows) (points ∷ borders)

-- the search that judges every border and looks at no box
unfoldable pub seek_alone : (ℕ → ℕ → Judgement) → ℕ → Rows → ℕ → List Hit → Reply Found
seek_alone judge room (row r rows) least hits = after_turn (judged_turn r (judge r.polygon least)) hits room (seek_alone judge room rows)
seek_alone judge room table_end least hits = ended hits 1 least
seek_alone judge room unreadable least hits = ended hits 2 least
seek_alone judge room (T.refused n) least hits = R.refused (plain n)
