-- A salvaged file as it is read: its header, and the rows of its table.
use Rattle.std.specs.Prelude.{◌+◌, ◌∷◌, ◌++◌}
use Rattle.numbers.specs.{Prelude.{ℕ, length, take, Bool, List, [], flat_map}, Spelling.{varint_of}}
use Rattle.header.specs.declared.header.Head.{Head}
use Rattle.salvage.specs.File.{border_bytes, entry_bytes, table_from, metadata_of}
use Rattle.table.specs.declared.rows.Row.{Row}

module _ (file : List ℕ) (head : Head) where
  -- where the table begins: behind the header and the three sizes
  unfoldable pub table_place : List ℕ → List Row → ℕ
  table_place texts kept =
      length (take 7 file ++ texts) + length (varint_of (length (table_from file head 0 0 kept)))
      + length (varint_of (length (metadata_of file head))) + length (varint_of (length (flat_map (border_bytes file head) kept)))

  -- the header, read plainly or strictly: type, version, precision and the number of names stay
  unfoldable pub new_head : Bool → List ℕ → List Row → Head
  new_head strict texts kept =
      let table = table_place texts kept in
      let size = length (table_from file head 0 0 kept) in
      record {
        preamble = head.preamble;
        sections = record { table = table; metadata = table + size; «data» = table + (size + length (metadata_of file head)) };
        strict = strict;
      }

  -- the rows from a place of the file and a number on, behind an entry with this metadata id whose border begins here and has this size
  unfoldable pub seats_from : ℕ → ℕ → ℕ → ℕ → ℕ → List Row → List Row
  seats_from place id metadata size polygon [] = []
  seats_from place id metadata size polygon (r ∷ rows) =
      let next = place + length (entry_bytes metadata size r) in
      record { place = place; id = id; metadata = r.metadata; polygon = polygon + size; bounds = r.bounds; next = next }
      ∷ seats_from next (id + 1) r.metadata (length (border_bytes file head r)) (polygon + size) rows

  unfoldable pub seats_of : List ℕ → List Row → List Row
  seats_of texts kept = seats_from (table_place texts kept) 0 0 0 0 kept
