-- The rows of a table that can be indexed are numbered from 0 up, and their boxes have the coordinates of an i32. Assumes nothing.
use Rattle.numbers.proofs.Prelude.{ℕ, zero, suc, ◌+◌, ◌-◌, ◌%◌, ◌^◌, ◌<◌, ltb-true, ltb, ℤ, Bool, true, false, List, [], ◌∷◌, ◌≡◌, refl, sym, ap, subst, w32, SFits, arith}
use Rattle.numbers.proofs.{Answers.{found_one, found_from}, Coordinates.{signed_fits}, Readings.{Grows, reading_grows}, Replies.{given_from, demanded, given_one}}
use Rattle.numbers.specs.{Answer.{Answer, found, if◌then◌else◌}, Reply.{given, plain}, Varint.{Numeral, reading_of}}
use Rattle.table.{proofs.TableRows.{row_less}, specs.{Ordered.{lowest}, Rows.{table_end, after, start_at, rows_then, row_by, rows_within, rows_from, rows_in}, Table.{steps_by, entry_by}}}
use Rattle.table.specs.declared.{rows.{Cursor.{Cursor}, Row.{Row}}, table.{Bounds.{Bounds}, Entry.{Entry}}}
use Rattle.header.specs.declared.header.Head.{Head}
use Rattle.index.specs.Table.{is_next, table_from, bottom, table_of}
use Rattle.numbers.specs.Answer as A

-- ---- coordinates
-- the coordinates of a box
pub record Fitting (b : Bounds) : Type 0 where
  pub south : SFits w32 b.min_lat.0
  pub west : SFits w32 b.min_lon.0
  pub north : SFits w32 b.max_lat.0
  pub east : SFits w32 b.max_lon.0

-- rows with the numbers from one on, and boxes that fit
pub data Sound : ℕ → List Row → Type 0 where
  none : {k : ℕ} → Sound k []
  one : {k : ℕ} {r : Row} {rows : List Row} → r.id ≡ k → Fitting r.bounds → Sound (k + 1) rows → Sound k (r ∷ rows)

module _ (read : ℕ → Answer Numeral) (grows : Grows read) (end : ℕ) where
  entry_fits : (place : ℕ) {entry : Entry} → found entry ≡ entry_by read place → Fitting entry.bounds
  unfolding entry_by steps_by
  entry_fits place e = let a = found_from (read place) _ e in let b = found_from (read a.it.place) _ a.onto in
      let c = found_from (read b.it.place) _ b.onto in let d = found_from (read c.it.place) _ c.onto in
      let m = found_from (read d.it.place) _ d.onto in let p = found_from (read m.it.place) _ m.onto in
      let form = ap (λ (x : Entry). x.bounds) (found_one p.onto) in
      subst Fitting (sym form) (record { south = signed_fits a.it.value; west = signed_fits b.it.value; north = signed_fits c.it.value; east = signed_fits d.it.value })

  row_sound : (at : Cursor) {r : Row} → found r ≡ row_by read at → (r.id ≡ at.id) × Fitting r.bounds
  unfolding row_by
  row_sound at {r} e = let entry = found_from (entry_by read at.place) _ e in let form = found_one entry.onto in
      (ap (λ (x : Row). x.id) form, subst Fitting (sym (ap (λ (x : Row). x.bounds) form)) (entry_fits at.place entry.is))

  abbrev Sounds : ℕ → Type 0
  Sounds more = (at : Cursor) (floor : ℤ) (rows : List Row) → at.id + (end - at.place) < 2 ^ 32 → given rows ≡ table_from end floor (rows_within read more end at) → Sound at.id rows

  turned : (more : ℕ) → Sounds more → (at : Cursor) (floor : ℤ) {rows : List Row} (answer : Answer Row) → answer ≡ row_by read at → at.place < end → at.id + (end - at.place) < 2 ^ 32
      → given rows ≡ table_from end floor (rows_then answer (rows_within read more end)) → Sound at.id rows
  unfolding table_from rows_then
  turned more rest at floor {rows} (found r) s here few e = let asked = demanded (is_next end floor r) (plain 34) e in
      let others = given_from (table_from end (lowest r) (rows_within read more end (after r))) (λ (rows : List Row). given (r ∷ rows)) asked.1 in
      let shape : rows ≡ r ∷ others.it = given_one others.onto in let sound = row_sound at s in let less = row_less read grows {end = end} at here s refl in
      let number : (r.id + 1) % 2 ^ 32 ≡ at.id + 1 = omega (arith, sound.0, few, less) in
      let behind = rest (after r) (lowest r) others.it (omega (arith, number, few, less)) others.is in
      subst (Sound at.id) (sym shape) (one sound.0 sound.1 (subst (λ (k : ℕ). Sound k others.it) number behind))
  turned more rest at floor A.failed s here few e = let z : ◌≡◌ {A = ℕ} 0 1 = cc in absurd (omega arith)
  turned more rest at floor (A.refused n) s here few e = let z : ◌≡◌ {A = ℕ} 0 1 = cc in absurd (omega arith)

  step : (more : ℕ) → Sounds more → Sounds (suc more)
  unfolding rows_within table_from
  step more rest at floor rows few e = choose (ltb at.place end) refl e where
    choose : (test : Bool) → ltb at.place end ≡ test → given rows ≡ table_from end floor (if test then rows_then (row_by read at) (rows_within read more end) else table_end) → Sound at.id rows
    choose true t e = turned more rest at floor (row_by read at) refl (ltb-true at.place end t) few e
    choose false t e = subst (Sound at.id) (sym (given_one e)) none

  all_sound : (more : ℕ) → Sounds more
  unfolding rows_within table_from
  all_sound zero at floor rows few e = let z : ◌≡◌ {A = ℕ} 0 1 = cc in absurd (omega arith)
  all_sound (suc more) at floor rows few e = step more (all_sound more) at floor rows few e

-- The rows of a table that can be indexed, in a file whose metadata start fits 32 bits.
pub table_sound : (file : List ℕ) (head : Head) {rows : List Row} → head.sections.metadata < 2 ^ 32 → given rows ≡ table_of file head → Sound 0 rows
unfolding table_of rows_in rows_from
table_sound file head {rows} small e =
    all_sound (reading_of head.strict file) (reading_grows head.strict file) head.sections.metadata (suc (head.sections.metadata - head.sections.table))
    (start_at head.sections.table) bottom rows (omega (arith, small)) e
