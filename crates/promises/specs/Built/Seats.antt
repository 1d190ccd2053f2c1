-- The yards in the order of the table, each with the row that its entry is read as.
use Rattle.std.specs.Prelude.{◌+◌, ◌∷◌}
use Rattle.numbers.specs.{Prelude.{ℕ, length, Bool, List, [], zip_with}, Spelling.{varint_of}}
use Rattle.builder.specs.{Borders.{Drawn}, Entries.{Entry, entry_bytes, from_south, table_of}, File.{head_of, entry_of}, Metadata.{records_of, metadata_of}, Yards.{Yard, Plan}}
use Rattle.layout.specs.Order.{sorted_by}
use Rattle.table.specs.{Rows.{Rows, row, table_end}, declared.{rows.Row.{Row}, table.Bounds.{Bounds}}}
use Rattle.header.specs.declared.header.Head.{Head}
use Rattle.builder.specs.declared.boxes.Bounds as built

-- a yard with its entry
pub record Entered : Type 0 where
  pub yard : Yard
  pub entry : Entry

-- in the order of the table
unfoldable pub entered_of : Plan → Drawn → List Entered
entered_of plan drawn =
    sorted_by (λ e. from_south e.entry.bounds.south) (zip_with (λ yard place. record { yard = yard; entry = entry_of plan.yards yard place }) plan.yards drawn.places)

-- a yard with its row
pub record Seat : Type 0 where
  pub yard : Yard
  pub at : Row

-- a box as a table has it
abbrev pub bounds_in : built.Bounds → Bounds
bounds_in b = record { min_lat = record { 0 = b.south }; min_lon = record { 0 = b.west }; max_lat = record { 0 = b.north }; max_lon = record { 0 = b.east } }

-- from a place of the file and a number on, behind an entry with these two places
unfoldable pub seats_from : ℕ → ℕ → ℕ → ℕ → List Entered → List Seat
seats_from place id record' border [] = []
seats_from place id record' border (e ∷ es) =
    let next = place + length (entry_bytes record' border e.entry) in
    record {
      yard = e.yard;
      at = record { place = place; id = id; metadata = e.entry.record'; polygon = e.entry.border; bounds = bounds_in e.entry.bounds; next = next };
    }
    ∷ seats_from next (id + 1) e.entry.record' e.entry.border es

-- ---- the sections
unfoldable pub table_in : Plan → Drawn → List ℕ
table_in plan drawn = table_of (zip_with (entry_of plan.yards) plan.yards drawn.places)

unfoldable pub metadata_in : Plan → List ℕ
metadata_in plan = metadata_of (records_of plan.yards)

-- where the table begins: behind the header and the three sizes
unfoldable pub table_place : Plan → Drawn → ℕ
table_place plan drawn =
    length (head_of plan) + length (varint_of (length (table_in plan drawn))) + length (varint_of (length (metadata_in plan))) + length (varint_of (length drawn.bytes))

-- the header as it is read
unfoldable pub head_in : Bool → Plan → Drawn → Head
head_in strict plan drawn =
    let table = table_place plan drawn in
    record {
      preamble = record { kind = plan.kind; version = plan.version; precision = plan.precision; count = length plan.names };
      sections = record { table = table; metadata = table + length (table_in plan drawn); «data» = table + (length (table_in plan drawn) + length (metadata_in plan)) };
      strict = strict;
    }

unfoldable pub seats_of : Plan → Drawn → List Seat
seats_of plan drawn = seats_from (table_place plan drawn) 0 0 0 (entered_of plan drawn)

-- the rows of a table with these seats
unfoldable pub rows_of : List Seat → Rows
rows_of [] = table_end
rows_of (s ∷ seats) = row s.at (rows_of seats)
