-- The row at a cursor, by what the reading of its entry answered. Assumes nothing.
use Rattle.numbers.{proofs.Prelude.{ℕ, ◌≡◌, ap, ◌∙◌}, specs.{Answer.{Answer, found, failed, refused, ◌>>=◌}, Varint.{Numeral}}}
use Rattle.table.specs.{Rows.{row_of, row_by}, Table.{entry_by}, declared.{rows.{Cursor.{Cursor}, Row.{Row}}, table.{Entry.{Entry}}}}

module _ (read : ℕ → Answer Numeral) (at : Cursor) where
  step : {answer : Answer Entry} → answer ≡ entry_by read at.place → (answer >>= λ entry. found (row_of at entry)) ≡ row_by read at
  unfolding row_by
  step e = ap (λ (x : Answer Entry). x >>= λ entry. found (row_of at entry)) e

  pub row_read : {r : Row} {entry : Entry} → found entry ≡ entry_by read at.place → r ≡ row_of at entry → found r ≡ row_by read at
  row_read e h = ap found h ∙ step e

  pub row_refused : {n : ℕ} → refused n ≡ entry_by read at.place → refused n ≡ row_by read at
  row_refused e = step e

  pub row_failed : failed ≡ entry_by read at.place → failed ≡ row_by read at
  row_failed e = step e
