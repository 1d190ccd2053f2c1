-- The rows of a table, one by one: the rows that their definition allows are never used up. Assumes nothing.
use Rattle.numbers.proofs.Prelude.{ℕ, zero, suc, ◌-◌, ◌≤◌, ◌<◌, lt-ltb, le-ltb, ltb-true, ltb, Bool, true, false, ◌≡◌, refl, sym, ap, ◌∙◌, le_refl, le_of_lt, arith}
use Rattle.numbers.{proofs.{Answers.{All, then_all}, Readings.{Grows}}, specs.{Answer.{Answer, found, if◌then◌else◌, ◌>>=◌}, Varint.{Numeral}}}
use Rattle.table.specs.{Rows.{after, Rows, row, table_end, unreadable, refused, rows_then, row_by, rows_within, rows_from}, Table.{steps_by, entry_by}, declared.rows.{Cursor.{Cursor}, Row.{Row}}}
use Rattle.table.specs.declared.table.Entry.{Entry}
use Rattle.numbers.specs.Answer as A

less : {place next end n : ℕ} → place < next → place < end → end - place < suc n → end - next < n
less h k l = omega arith

-- a row ends after a place
abbrev Past : ℕ → Row → Type 0
Past place r = place < r.next

either : {A : Type 0} (test : Bool) {a b : A} (c : A) → (test ≡ true → a ≡ b) → (if test then a else c) ≡ (if test then b else c)
either true c h = h refl
either false c h = refl

then_agree : (place : ℕ) (answer : Answer Row) (k k' : Cursor → Rows) → All (Past place) answer → ((r : Row) → Past place r → k (after r) ≡ k' (after r)) → rows_then answer k ≡ rows_then answer k'
unfolding rows_then
then_agree place (found r) k k' h e = ap (row r) (e r h)
then_agree place A.failed k k' h e = refl
then_agree place (A.refused n) k k' h e = refl

module _ (read : ℕ → Answer Numeral) (grows : Grows read) where
  -- ---- a row ends after its place
  number_past : {B : Type 0} (Q : B → Type 0) (start place : ℕ) (next : Numeral → Answer B) → start ≤ place → ((number : Numeral) → start < number.place → All Q (next number))
      → All Q (read place >>= next)
  number_past Q start place next h k = then_all _ Q (read place) next (grows place) (λ number l. k number (omega arith))

  pub entry_past : (place : ℕ) → All (λ (entry : Entry). place < entry.next) (entry_by read place)
  unfolding entry_by steps_by
  entry_past place = let Q : Entry → Type 0 = λ entry. place < entry.next in
      number_past Q place place _ (le_refl place) λ a ha. number_past Q place a.place _ (le_of_lt ha) λ b hb. number_past Q place b.place _ (le_of_lt hb)
      λ c hc. number_past Q place c.place _ (le_of_lt hc) λ d hd. number_past Q place d.place _ (le_of_lt hd) λ m hm. number_past Q place m.place _ (le_of_lt hm) λ p hp. hp

  row_past : (at : Cursor) → All (Past at.place) (row_by read at)
  unfolding row_by
  row_past at = then_all (λ (entry : Entry). at.place < entry.next) (Past at.place) (entry_by read at.place) _ (entry_past at.place) (λ entry h. h)

  -- ---- so there are fewer rows than places
  agree : (end n m : ℕ) (at : Cursor) → end - at.place < n → end - at.place < m → rows_within read n end at ≡ rows_within read m end at
  unfolding rows_within
  agree end zero m at h k = absurd (omega arith)
  agree end (suc n) zero at h k = absurd (omega arith)
  agree end (suc n) (suc m) at h k = further (agree end n m) where
    further : ((at : Cursor) → end - at.place < n → end - at.place < m → rows_within read n end at ≡ rows_within read m end at)
        → (if ltb at.place end then rows_then (row_by read at) (rows_within read n end) else table_end) ≡ (if ltb at.place end then rows_then (row_by read at) (rows_within read m end) else table_end)
    further rest =
        either (ltb at.place end) table_end (λ more. then_agree at.place (row_by read at) _ _ (row_past at) (λ r past. rest (after r)
        (less past (ltb-true _ _ more) h) (less past (ltb-true _ _ more) k)))

  -- a table's rows, row by row: reading always ends
  pub rows_step : (end : ℕ) (at : Cursor) → rows_from read end at ≡ (if ltb at.place end then rows_then (row_by read at) (rows_from read end) else table_end)
  unfolding rows_from rows_within
  rows_step end at =
      either (ltb at.place end) table_end (λ more. then_agree at.place (row_by read at) _ _ (row_past at) (λ r past. agree end (end - at.place)
      (suc (end - r.next)) (after r) (less past (ltb-true _ _ more) (omega arith)) (omega arith)))

  -- ---- what a loop over rows needs
  module _ {end : ℕ} (at : Cursor) where
    pub at_end : end ≤ at.place → rows_from read end at ≡ table_end
    at_end h = rows_step end at ∙ rw (le-ltb _ _ h)

    module _ (more : at.place < end) where
      here : {answer : Answer Row} → answer ≡ row_by read at → rows_from read end at ≡ rows_then answer (rows_from read end)
      here e = rows_step end at ∙ rw (lt-ltb _ _ more, ← e)

      pub at_row : {r : Row} {next : Cursor} → found r ≡ row_by read at → next ≡ after r → rows_from read end at ≡ row r (rows_from read end next)
      unfolding rows_then
      at_row {r} e n = here e ∙ ap (λ (x : Cursor). row r (rows_from read end x)) (sym n)

      pub at_unreadable : A.failed ≡ row_by read at → rows_from read end at ≡ unreadable
      unfolding rows_then
      at_unreadable e = here e

      pub at_refused : {n : ℕ} → A.refused n ≡ row_by read at → rows_from read end at ≡ refused n
      unfolding rows_then
      at_refused e = here e

      -- each row leaves less to read
      pub row_less : {r : Row} {next : Cursor} → found r ≡ row_by read at → next ≡ after r → end - next.place < end - at.place
      row_less {r} {next} e n = rw n (less' (past_of (row_by read at) e (row_past at))) where
        past_of : (answer : Answer Row) → found r ≡ answer → All (Past at.place) answer → at.place < r.next
        past_of (found s) e h = let same : r ≡ s = cc in rw same h
        past_of A.failed e h = let z : ◌≡◌ {A = ℕ} 0 1 = cc in absurd (omega arith)
        past_of (A.refused n) e h = let z : ◌≡◌ {A = ℕ} 0 1 = cc in absurd (omega arith)

        less' : {place : ℕ} → at.place < place → end - place < end - at.place
        less' h = omega arith

-- what holds of each way on holds of the rows
module _ (read : ℕ → Answer Numeral) (P : Rows → Type 0) (ends : P table_end) (fails : P unreadable)
    (goes : (at : Cursor) (r : Row) (rest : Rows) → found r ≡ row_by read at → P rest → P (row r rest)) (refuses : (at : Cursor) (n : ℕ) → A.refused n ≡ row_by read at → P (refused n)) where
  then_so : (at : Cursor) (answer : Answer Row) → answer ≡ row_by read at → (rest : Cursor → Rows) → ((next : Cursor) → P (rest next)) → P (rows_then answer rest)
  unfolding rows_then
  then_so at (found r) e rest k = goes at r _ e (k (after r))
  then_so at A.failed e rest k = fails
  then_so at (A.refused n) e rest k = refuses at n e

  within_so : (more end : ℕ) (at : Cursor) → P (rows_within read more end at)
  unfolding rows_within
  within_so zero end at = fails
  within_so (suc more) end at = choose (ltb at.place end) (then_so at (row_by read at) refl _ (within_so more end)) where
    choose : (test : Bool) {rows : Rows} → P rows → P (if test then rows else table_end)
    choose true h = h
    choose false h = ends

  pub rows_so : (end : ℕ) (at : Cursor) → P (rows_from read end at)
  unfolding rows_from
  rows_so end at = within_so _ end at
