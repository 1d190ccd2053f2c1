-- The length of a file from the totals alone. Assumes nothing.
use Rattle.numbers.{proofs.Prelude.{ℕ, ◌+◌, length, length-append, List, ◌++◌, zip_with, ◌≡◌, arith}, specs.Spelling.{varint_of}}
use Rattle.builder.specs.{Borders.{Drawn}, Entries.{table_of}, File.{assembled, entry_of, file_of, head_of}, Metadata.{metadata_of, records_of}, Yards.{Plan}}
use Rattle.draft.specs.Held.Totals.{file_size, totals_for}

assembled_size : (head table metadata bytes : List ℕ) → length head + (length (varint_of (length table)) + (length (varint_of (length metadata)) +
    (length (varint_of (length bytes)) + (length table + (length metadata + length bytes))))) ≡ length (assembled head table metadata bytes)
unfolding assembled
assembled_size head table metadata bytes = let a : List ℕ = varint_of (length table) in let b : List ℕ = varint_of (length metadata) in
    let c : List ℕ = varint_of (length bytes) in
    omega (
      arith,
      length-append head (a ++ (b ++ (c ++ (table ++ (metadata ++ bytes))))),
      length-append a (b ++ (c ++ (table ++ (metadata ++ bytes)))),
      length-append b (c ++ (table ++ (metadata ++ bytes))),
      length-append c (table ++ (metadata ++ bytes)),
      length-append table (metadata ++ bytes),
      length-append metadata bytes,
    )

-- what fits is asked of the sums alone
pub size_is : (plan : Plan) (drawn : Drawn) → file_size (length (head_of plan)) (totals_for plan.yards drawn) ≡ length (file_of plan drawn)
unfolding file_size totals_for file_of
size_is plan drawn = assembled_size (head_of plan) (table_of (zip_with (entry_of plan.yards) plan.yards drawn.places)) (metadata_of (records_of plan.yards)) drawn.bytes
