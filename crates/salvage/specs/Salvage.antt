-- Salvage: the reply and both lent outputs. Document 02, Q-7.
use Rattle.std.specs.Prelude.{◌/◌, ◌^◌, ◌&&◌}
use Rattle.numbers.specs.{Lists.{zeros, padded}, Prelude.{ℕ, min, ltb, leb, length, true, List}, Reply.{Reply, given, refused, plain, demand, ◌>>=◌, ◌>>◌}}
use Rattle.header.specs.Header.{head_by}
use Rattle.table.specs.{Rows.{rows_in}, declared.rows.Row.{Row}}
use Rattle.salvage.specs.{File.{head_texts, new_file}, Kept.{kept_of, lines_from}}
-- the file's length, the number of lines, the number of kept entries
pub use Rattle.salvage.specs.declared.rescue.reply.Counts.{Counts}

-- the new file, the words of the list, and the rows that are kept
pub record Salvaged : Type 0 where
  pub file : List ℕ
  pub lines : List ℕ
  pub kept : List Row

-- "refusals: as strict opening, 26, 28 (the list too); 32 when no entry is left, last"
unfoldable pub salvaged_of : List ℕ → ℕ → ℕ → Reply Salvaged
salvaged_of file words room = do
  head ← head_by true file
  texts ← head_texts file head
  let kept = kept_of file head (rows_in file head)
  let lines = lines_from file head 0 (rows_in file head)
  let new = new_file file head texts kept
  demand (leb (length new) (min room (2 ^ 30)) && leb (length lines) words) (plain 28)
  demand (ltb 0 (length kept)) (plain 32)
  given (record { file = new; lines = lines; kept = kept })

-- the reply, all words of the list and all bytes of the output: zeros behind what is written; on a refusal zeros alone
pub record Replied : Type 0 where
  pub reply : Reply Counts
  pub list : List ℕ
  pub out : List ℕ

abbrev pub replied_of : ℕ → ℕ → Reply Salvaged → Replied
replied_of words room (given s) = record {
  reply = given (record { size = length s.file; lines = length s.lines / 2; kept = length s.kept });
  list = padded words s.lines;
  out = padded room s.file;
}
replied_of words room (refused why) = record { reply = refused why; list = zeros words; out = zeros room }

unfoldable pub salvaged : List ℕ → ℕ → ℕ → Replied
salvaged file words room = replied_of words room (salvaged_of file words room)
