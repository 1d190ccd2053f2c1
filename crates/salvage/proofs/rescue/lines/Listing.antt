-- The list, entry by entry: what an entry adds to it, and what is left to store. Assumes nothing.
use Rattle.numbers.proofs.Prelude.{ℕ, suc, ◌+◌, ◌*◌, ◌≤◌, ◌<◌, length, List, [], ◌∷◌, ◌≡◌, refl, sym, ap, subst, ◌∙◌, arith}
use Rattle.numbers.{proofs.{Readings.{reading_grows}, Replies.{given_one}}, specs.{Answer.{Answer, found, failed}, Reply.{Reply, given, refused, plain, ◌or_else◌}, Varint.{Numeral, reading_of}, declared.refusal.Refusal.{Refusal}}}
use Rattle.writer.{proofs.Stores.{Left, left_all, left_step, left_none, left_last, stored_then}, specs.inner.Stored.{Stored}}
use Rattle.header.specs.declared.header.Head.{Head}
use Rattle.salvage.specs.{Kept.{entry_good, kept_if, kept_of, line_if, lines_from}, declared.rescue.lines.{Dropped.{Dropped}, Turn.{Turn}}, inner.Rescue.Turns.{judged_turn, turn_by, Listed}}
use Rattle.table.{proofs.TableRows.{at_end, at_row, at_unreadable, at_refused, row_less}, specs.{Rows.{Rows, start_at, after, row_by, rows_from, rows_in}, declared.rows.{Cursor.{Cursor}, Row.{Row}}}}
use Rattle.numbers.specs.Answer as A
use Rattle.salvage.specs.declared.rescue.lines.Turn.TheVariants as T

-- ---- an entry that was judged

module _ (file : List ℕ) (head : Head) where
  -- one that was read, and one that was not
  pub turn_given : (answer : Answer Row) {r : Row} → given r ≡ (answer or_else plain 70) → judged_turn (entry_good file head r) (after r) ≡ turn_by file head answer
  turn_given (found s) e = let same = given_one e in rw same refl
  turn_given failed e = let z : ◌≡◌ {A = ℕ} 0 1 = cc in absurd (omega arith)
  turn_given (A.refused n) e = let z : ◌≡◌ {A = ℕ} 0 1 = cc in absurd (omega arith)

  pub turn_refused : (answer : Answer Row) {why : Refusal} → refused why ≡ (answer or_else plain 70) → T.Unreadable why.number ≡ turn_by file head answer
  turn_refused (found s) e = let z : ◌≡◌ {A = ℕ} 0 1 = cc in absurd (omega arith)
  turn_refused failed {why} e = let same : why ≡ plain 70 = cc in ap (λ (w : Refusal). T.Unreadable w.number) same
  turn_refused (A.refused n) {why} e = let same : why ≡ plain n = cc in ap (λ (w : Refusal). T.Unreadable w.number) same

  abbrev read : ℕ → Answer Numeral
  read = reading_of head.strict file

  abbrev end : ℕ
  end = head.sections.metadata

  abbrev rows_at : Cursor → Rows
  rows_at = rows_from read end

  abbrev lines_at : ℕ → Cursor → List ℕ
  lines_at number at = lines_from file head number (rows_at at)

  abbrev kept_at : Cursor → ℕ
  kept_at at = length (kept_of file head (rows_at at))

  -- what the entry at a cursor adds to the list and to the entries that are kept
  abbrev pub Turned : ℕ → Cursor → Turn → Type 0
  Turned number at (T.Kept next) = (lines_at number at ≡ lines_at (number + 1) next) × (kept_at at ≡ suc (kept_at next)) × (at.place < next.place)
  Turned number at (T.Dropped d) = (lines_at number at ≡ number ∷ d.reason ∷ lines_at (number + 1) d.next) × (kept_at at ≡ kept_at d.next) × (at.place < d.next.place)
  Turned number at (T.Unreadable n) = (lines_at number at ≡ number ∷ n ∷ (number + 1) ∷ 73 ∷ []) × (kept_at at ≡ 0)

  pub turned : (number : ℕ) (at : Cursor) → at.place < end → {t : Turn} → t ≡ turn_by file head (row_by read at) → Turned number at t
  unfolding lines_from kept_of
  turned number at more {t} is = subst (Turned number at) (sym is) (go (row_by read at) refl) where
    judged : (r : Row) → found r ≡ row_by read at → (g : Reply (Unit {0})) → entry_good file head r ≡ g → Turned number at (judged_turn g (after r))
    judged r e (given tt) good = let here = at_row read (reading_grows head.strict file) at more e refl in (
      ap (lines_from file head number) here ∙ ap (λ (g : Reply (Unit {0})). line_if g number (lines_at (number + 1) (after r))) good,
      ap (λ (rows : Rows). length (kept_of file head rows)) here ∙ ap (λ (g : Reply (Unit {0})). length (kept_if g r (kept_of file head (rows_at (after r))))) good,
      omega (arith, row_less read (reading_grows head.strict file) at more e refl),
    )
    judged r e (refused why) bad = let here = at_row read (reading_grows head.strict file) at more e refl in (
      ap (lines_from file head number) here ∙ ap (λ (g : Reply (Unit {0})). line_if g number (lines_at (number + 1) (after r))) bad,
      ap (λ (rows : Rows). length (kept_of file head rows)) here ∙ ap (λ (g : Reply (Unit {0})). length (kept_if g r (kept_of file head (rows_at (after r))))) bad,
      omega (arith, row_less read (reading_grows head.strict file) at more e refl),
    )

    go : (answer : Answer Row) → answer ≡ row_by read at → Turned number at (turn_by file head answer)
    go (found r) e = judged r e (entry_good file head r) refl
    go failed e = let here = at_unreadable read (reading_grows head.strict file) at more e in
        (ap (lines_from file head number) here, ap (λ (rows : Rows). length (kept_of file head rows)) here)
    go (A.refused n) e = let here = at_refused read (reading_grows head.strict file) at more e in
        (ap (lines_from file head number) here, ap (λ (rows : Rows). length (kept_of file head rows)) here)

  -- ---- what is stored, counted, and left
  module _ (before : List ℕ) where
    abbrev all : List ℕ
    all = lines_from file head 0 (rows_in file head)

    pub record Listing (now : List ℕ) (at : Cursor) (number words kept : ℕ) : Type 0 where
      pub left : Left before 0 all now words (lines_at number at)
      pub count : kept + kept_at at ≡ length (kept_of file head (rows_in file head))
      pub few : number ≤ at.place
      pub twice : words ≤ 2 * number
      pub below : kept ≤ number

    pub lists_start : {at : Cursor} → at ≡ start_at head.sections.table → Listing before at 0 0 0
    unfolding rows_in
    lists_start {at} e =
        subst (λ (x : Cursor). Listing before x 0 0 0) (sym e)
        (record {
          left = left_all;
          count = let same : kept_at (start_at head.sections.table) ≡ length (kept_of file head (rows_in file head)) = refl in
              omega (arith, same);
          few = omega arith;
          twice = omega arith;
          below = omega arith;
        })

    module _ {now : List ℕ} {at : Cursor} {number words kept : ℕ} (l : Listing now at number words kept) where
      pub lists_keep : (next : Cursor) → Turned number at (T.Kept next) → Listing now next (number + 1) words (kept + 1)
      lists_keep next t =
          record {
            left = subst (Left before 0 all now words) t.0 l.left;
            count = omega (arith, l.count, t.1);
            few = omega (arith, l.few, t.2);
            twice = omega (arith, l.twice);
            below = omega (arith, l.below);
          }

      pub lists_drop : {after' : List ℕ} {words' : ℕ} (d : Dropped) → Turned number at (T.Dropped d) → Stored now words (number ∷ d.reason ∷ []) after' words' →
          Listing after' d.next (number + 1) words' kept
      lists_drop d t s =
          record {
            left = left_step (number ∷ d.reason ∷ []) (subst (Left before 0 all now words) t.0 l.left) s;
            count = omega (arith, l.count, t.1);
            few = omega (arith, l.few, t.2);
            twice = omega (arith, l.twice, s.place_after);
            below = omega (arith, l.below);
          }

      pub lists_stop : {middle after' : List ℕ} {n words' last : ℕ} → Turned number at (T.Unreadable n) → Stored now words (number ∷ n ∷ []) middle words'
          → Stored middle words' ((number + 1) ∷ 73 ∷ []) after' last → Listed file head before after' (record { words = last; kept = kept })
      lists_stop {n = n} t s s' =
          record {
            words = left_last (number ∷ n ∷ (number + 1) ∷ 73 ∷ []) (subst (Left before 0 all now words) t.0 l.left) (stored_then (number ∷ n ∷ []) ((number + 1) ∷ 73 ∷ []) s s');
            kept = omega (arith, l.count, t.1);
          }

      pub lists_end : end ≤ at.place → Listed file head before now (record { words = words; kept = kept })
      unfolding lines_from kept_of
      lists_end h = let done = at_end read (reading_grows head.strict file) at h in
          let none : kept_at at ≡ 0 = ap (λ (rows : Rows). length (kept_of file head rows)) done in record {
            words = left_none (subst (Left before 0 all now words) (ap (lines_from file head number) done) l.left);
            kept = omega (arith, l.count, none);
          }
