-- What becomes of an entry, and the list of dropped ones as it is stored.
use Rattle.std.specs.Prelude.{◌≡◌}
use Rattle.numbers.specs.{Answer.{Answer, found, failed}, Prelude.{ℕ, length, List}, Reply.{Reply, given, refused}}
use Rattle.writer.specs.inner.Stored.{Stored}
use Rattle.header.specs.declared.header.Head.{Head}
use Rattle.salvage.specs.{Kept.{entry_good, kept_of, lines_from}, declared.rescue.lines.{Lines.{Lines}, Turn.{Turn}}}
use Rattle.table.specs.{Rows.{after, rows_in}, declared.rows.{Cursor.{Cursor}, Row.{Row}}}
use Rattle.numbers.specs.Answer as A
use Rattle.salvage.specs.declared.rescue.lines.Turn.TheVariants as T

-- an entry whose six numbers were read is kept, or dropped for its first reason
abbrev pub judged_turn : Reply (Unit {0}) → Cursor → Turn
judged_turn (given good) next = T.Kept next
judged_turn (refused why) next = T.Dropped (record { reason = why.number; next = next })

-- one that can't be read: 70, or 12 or 31
abbrev pub turn_by : List ℕ → Head → Answer Row → Turn
turn_by file head (found r) = judged_turn (entry_good file head r) (after r)
turn_by file head failed = T.Unreadable 70
turn_by file head (A.refused n) = T.Unreadable n

-- all words of the list were stored, as many as fit, and the entries that are kept were counted
pub record Listed (file : List ℕ) (head : Head) (before after : List ℕ) (lines : Lines) : Type 0 where
  pub words : Stored before 0 (lines_from file head 0 (rows_in file head)) after lines.words
  pub kept : lines.kept ≡ length (kept_of file head (rows_in file head))
