-- The new file, section by section.
use Rattle.std.specs.Prelude.{◌<◌, ◌++◌, ◌≡◌}
use Rattle.numbers.specs.{Prelude.{ℕ, length, List, flat_map}, Reply.{Reply, given, ◌>>=◌}, Spelling.{varint_of}}
use Rattle.header.specs.declared.header.Head.{Head}
use Rattle.salvage.specs.{File.{head_texts, border_bytes, table_from, new_file, Sized}, Kept.{kept_of}, inner.Moves.Laid.{cap, Capped}}
use Rattle.table.specs.Rows.{rows_in}

abbrev pub new_table : List ℕ → Head → List ℕ
new_table file head = table_from file head 0 0 (kept_of file head (rows_in file head))

abbrev pub new_data : List ℕ → Head → List ℕ
new_data file head = flat_map (border_bytes file head) (kept_of file head (rows_in file head))

-- the whole file, or the refusal of its texts
abbrev pub whole_of : List ℕ → Head → Reply (List ℕ)
whole_of file head = head_texts file head >>= λ texts. given (new_file file head texts (kept_of file head (rows_in file head)))

-- ---- sizes that were counted with a cap
-- those of the sections
abbrev pub sizes_of : List ℕ → List ℕ → List ℕ → List ℕ
sizes_of table metadata bytes = varint_of (length table) ++ (varint_of (length metadata) ++ varint_of (length bytes))

-- the table's size counts where the data section is below the cap
abbrev pub SizedIf : List ℕ → List ℕ → ℕ → Type 0
SizedIf bytes table size = length bytes < cap → Sized table size

-- they are right where no section reaches the cap
pub record Sizes (table metadata bytes before : List ℕ) (place : ℕ) (after : List ℕ) (next : ℕ) : Type 0 where
  pub right : length table < cap → length metadata < cap → length bytes < cap → Capped before place (sizes_of table metadata bytes) after next
  pub size : length after ≡ length before
