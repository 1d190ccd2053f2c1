-- An entry from the six numbers that are read at its place. Assumes nothing.
use Rattle.numbers.{proofs.Prelude.{ℕ, ◌≡◌}, specs.{Answer.{Answer, found}, Varint.{Numeral, numeral}}}
use Rattle.table.specs.{Rows.{row_of, row_by}, Table.{bounds_of, steps_by, entry_by}, declared.{rows.Cursor.{Cursor}, table.Entry.{Entry}}}

pub six_read : (read : ℕ → Answer Numeral) {p q r s t u v a b c d e f : ℕ} → read p ≡ numeral a q → read q ≡ numeral b r → read r ≡ numeral c s
    → read s ≡ numeral d t → read t ≡ numeral e u → read u ≡ numeral f v → entry_by read p ≡ found (record { bounds = bounds_of a b c d; metadata = e; polygon = f; next = v })
unfolding entry_by steps_by
six_read read one two three four five six = rw (one, two, three, four, five, six)

-- and its row
pub entry_row : (read : ℕ → Answer Numeral) (at : Cursor) (entry : Entry) → entry_by read at.place ≡ found entry → row_by read at ≡ found (row_of at entry)
unfolding row_by
entry_row read at entry is = rw is
