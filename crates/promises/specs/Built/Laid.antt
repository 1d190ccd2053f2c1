-- A file laid out for another length of its records.
use Rattle.std.specs.Prelude.{◌++◌}
use Rattle.numbers.specs.Prelude.{ℕ, length, List, flat_map, zip_with}
use Rattle.builder.specs.{Borders.{Drawn}, Entries.{Entry, box_of, table_of}, File.{head_of, assembled}, Metadata.{inlined, records_of, fields_of, written, remotes}, Sharing.{same_texts, size_before}}
use Rattle.builder.specs.Yards.{Text, Yard, Plan}

-- the place of a yard's record, and the section
unfoldable pub start_for : ℕ → List (List Text) → List Text → ℕ
start_for layout records values = size_before same_texts (λ r. length (flat_map (written (fields_of records) layout) r)) values records

unfoldable pub metadata_for : ℕ → List (List Text) → List ℕ
metadata_for layout records = flat_map (written (fields_of records) layout) (fields_of records) ++ flat_map inlined (remotes (fields_of records))

abbrev pub entry_for : ℕ → List Yard → Yard → ℕ → Entry
entry_for layout yards yard place = record { bounds = box_of yard.lats yard.lons; record' = start_for layout (records_of yards) yard.values; border = place }

unfoldable pub file_for : ℕ → Plan → Drawn → List ℕ
file_for layout plan drawn =
    let yards = plan.yards in
    assembled (head_of plan) (table_of (zip_with (entry_for layout yards) yards drawn.places)) (metadata_for layout (records_of yards)) drawn.bytes
