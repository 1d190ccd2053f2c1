-- Rows and tables that end inside bytes that two files share are the same in both. Assumes nothing.
use Rattle.numbers.proofs.{Answers.{found_one, found_from, all_found, goes}, Prelude.{ℕ, zero, suc, ◌≤◌, ◌<◌, leb-true, ltb, leb, ℤ, le_z, Bool, true, false, List, ◌∷◌, ◌≡◌, refl, ap, ◌∙◌, arith}}
use Rattle.numbers.{proofs.{Readings.{Grows}, Replies.{given_from, demanded, met, onward}, Tests.{both}}, specs.{Answer.{Answer, found, if◌then◌else◌}, Reply.{given, plain}, Varint.{Numeral}}}
use Rattle.table.specs.{Ordered.{lowest}, Rows.{table_end, after, rows_then, row_by, rows_within}, Table.{steps_by, entry_by}, declared.{rows.{Cursor.{Cursor}, Row.{Row}}, table.Entry.{Entry}}}
use Rattle.index.specs.Table.{is_next, table_from}
use Rattle.numbers.specs.Answer as A

-- ---- rows
module _ (read read' : ℕ → Answer Numeral) (grows : Grows read) (end : ℕ) (same : (place : ℕ) (number : Numeral) → found number ≡ read place → number.place ≤ end → found number ≡ read' place) where
  past : (place : ℕ) {number : Numeral} → found number ≡ read place → place < number.place
  past place e = all_found (λ (n : Numeral). place < n.place) (read place) e (grows place)

  entry_alike : (place : ℕ) {entry : Entry} → found entry ≡ entry_by read place → entry.next ≤ end → found entry ≡ entry_by read' place
  unfolding entry_by steps_by
  entry_alike place {entry} e h = let a = found_from (read place) _ e in let b = found_from (read a.it.place) _ a.onto in
      let c = found_from (read b.it.place) _ b.onto in let d = found_from (read c.it.place) _ c.onto in
      let m = found_from (read d.it.place) _ d.onto in let p = found_from (read m.it.place) _ m.onto in
      let p_in : p.it.place ≤ end = omega (arith, h, ap (λ (x : Entry). x.next) (found_one p.onto)) in
      let m_in : m.it.place ≤ end = omega (arith, p_in, past m.it.place p.is) in
      let d_in : d.it.place ≤ end = omega (arith, m_in, past d.it.place m.is) in
      let c_in : c.it.place ≤ end = omega (arith, d_in, past c.it.place d.is) in
      let b_in : b.it.place ≤ end = omega (arith, c_in, past b.it.place c.is) in
      let a_in : a.it.place ≤ end = omega (arith, b_in, past a.it.place b.is) in
      p.onto ∙ goes (same m.it.place p.it p.is p_in) _ ∙ goes (same d.it.place m.it m.is m_in) _ ∙ goes (same c.it.place d.it d.is d_in) _
      ∙ goes (same b.it.place c.it c.is c_in) _ ∙ goes (same a.it.place b.it b.is b_in) _ ∙ goes (same place a.it a.is a_in) _

  row_alike : (at : Cursor) {r : Row} → found r ≡ row_by read at → r.next ≤ end → found r ≡ row_by read' at
  unfolding row_by
  row_alike at {r} e h = let entry = found_from (entry_by read at.place) _ e in
      let ends : r.next ≡ entry.it.next = ap (λ (x : Row). x.next) (found_one entry.onto) in
      entry.onto ∙ goes (entry_alike at.place entry.is (omega (arith, ends, h))) _

  -- ---- tables
  abbrev Same : ℕ → Type 0
  Same more = (at : Cursor) (floor : ℤ) (rows : List Row) → given rows ≡ table_from end floor (rows_within read more end at) → given rows ≡ table_from end floor (rows_within read' more end at)

  turned : (more : ℕ) → Same more → (at : Cursor) (floor : ℤ) {rows : List Row} (answer : Answer Row) → answer ≡ row_by read at
      → given rows ≡ table_from end floor (rows_then answer (rows_within read more end)) → given rows ≡ table_from end floor (rows_then (row_by read' at) (rows_within read' more end))
  unfolding table_from rows_then
  turned more rest at floor (found r) s e = let asked = demanded (is_next end floor r) (plain 34) e in
      let inside = leb-true r.next end (both (leb r.next end) (le_z floor (lowest r)) asked.0).0 in let here = row_alike at s inside in
      let others = given_from (table_from end (lowest r) (rows_within read more end (after r))) (λ (rows : List Row). given (r ∷ rows)) asked.1 in
      others.onto ∙ onward (rest (after r) (lowest r) others.it others.is) (λ (rows : List Row). given (r ∷ rows)) ∙ met asked.0 (plain 34) _
      ∙ ap (λ (a : Answer Row). table_from end floor (rows_then a (rows_within read' more end))) here
  turned more rest at floor A.failed s e = let z : ◌≡◌ {A = ℕ} 0 1 = cc in absurd (omega arith)
  turned more rest at floor (A.refused n) s e = let z : ◌≡◌ {A = ℕ} 0 1 = cc in absurd (omega arith)

  step : (more : ℕ) → Same more → Same (suc more)
  unfolding rows_within
  step more rest at floor rows e = choose (ltb at.place end) e where
    choose : (test : Bool) → given rows ≡ table_from end floor (if test then rows_then (row_by read at) (rows_within read more end) else table_end)
        → given rows ≡ table_from end floor (if test then rows_then (row_by read' at) (rows_within read' more end) else table_end)
    choose true e = turned more rest at floor (row_by read at) refl e
    choose false e = e

  pub table_alike : (more : ℕ) → Same more
  unfolding rows_within
  table_alike zero at floor rows e = e
  table_alike (suc more) at floor rows e = step more (table_alike more) at floor rows e
