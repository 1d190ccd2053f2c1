-- The totals of the yards that are held, as a fresh sum: document 02, Q-5, "the sizes, the yard count and the greatest lower latitude (0 if none)".
use Rattle.std.specs.Prelude.{◌+◌, ◌^◌, ◌∷◌}
use Rattle.numbers.specs.{Prelude.{ℕ, ℤ, length, List, [], map, zip_with}, Reply.{Reply, given, refused}, Spelling.{varint_of}}
use Rattle.builder.specs.{Borders.{Drawn, drawn_of}, Entries.{lowest_of, highest_of, table_of}, File.{entry_of}, Metadata.{records_of, metadata_of}, Yards.{Yard, Plan}}

-- the sizes of the three sections, how many yards there are, their greatest lower latitude
pub record Totals : Type 0 where
  pub table : ℕ
  pub metadata : ℕ
  pub bytes : ℕ
  pub yards : ℕ
  pub greatest : ℤ

-- no yard is held whose border is refused, so the zero byte alone is never taken in place of a data section
unfoldable pub drawn_or : Reply Drawn → Drawn
drawn_or (given drawn) = drawn
drawn_or (refused why) = record { bytes = 0 ∷ []; places = [] }

-- the data section of the held yards
unfoldable pub data_of : Plan → Drawn
data_of plan = drawn_or (drawn_of plan.version (2 ^ 30) plan.yards)

-- with their borders drawn so
unfoldable pub totals_for : List Yard → Drawn → Totals
totals_for yards drawn =
    record {
      table = length (table_of (zip_with (entry_of yards) yards drawn.places));
      metadata = length (metadata_of (records_of yards));
      bytes = length drawn.bytes;
      yards = length yards;
      greatest = highest_of (map (λ y. lowest_of y.lats) yards);
    }

-- a fresh sum over the held yards
unfoldable pub totals_of : Plan → Totals
totals_of plan = totals_for plan.yards (data_of plan)

-- the length of the whole file, behind a head of this length, from the totals alone
unfoldable pub file_size : ℕ → Totals → ℕ
file_size head t = head + (length (varint_of t.table) + (length (varint_of t.metadata) + (length (varint_of t.bytes) + (t.table + (t.metadata + t.bytes)))))
