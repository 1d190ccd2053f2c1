-- The table as it goes into the index, row by row; and that it is in order. Assumes nothing.
use Rattle.numbers.proofs.{Answers.{found_one}, Lists.{sets_append}, Prelude.{ℕ, ◌+◌, ◌-◌, ◌*◌, ◌^◌, ◌≤◌, ◌<◌, ℤ, length, length-append, sets, Bool, true}}
use Rattle.numbers.{proofs.{Prelude.{false, List, [], ◌∷◌, ◌++◌, append_assoc, append-nil, ◌≡◌, refl, sym, ap, ◌∙◌, arith}, Readings.{reading_grows}, Replies.{given_one}}, specs.{Answer.{Answer, found}, Reply.{Reply}}}
use Rattle.numbers.specs.{Reply.{given, refused, plain, demand, ◌>>=◌, ◌>>◌}, Varint.{told, reading_of}, declared.refusal.Refusal.{Refusal}}
use Rattle.numbers.specs.declared.varint.Stop.{Stop, TheVariants.{Failed, TooLong, Incomplete, OutOfRange, PastEnd}}
use Rattle.std.specs.Prelude.{Err}
use lib.Seq.{append_snoc}
use Rattle.writer.specs.inner.Stored.{Stored}
use Rattle.table.{proofs.TableRows.{at_end, at_row, at_unreadable, at_refused, row_less}, specs.{Ordered.{lowest}, Rows.{Rows, row_of, after, start_at, row_by, rows_from, rows_in}, Table.{entry_by}}}
use Rattle.table.specs.declared.{rows.{Cursor.{Cursor}, Row.{Row}}, table.Entry.{Entry}}
use Rattle.header.specs.declared.header.Head.{Head}
use Rattle.index.specs.{Index.{record_of, records_at, records_of}, Table.{is_next, table_from, bottom, table_of}, inner.Building.{Recorded, next_of}}
use Rattle.numbers.specs.Answer as A

-- ---- order

-- ---- records
pub records_length : (rows : List Row) → length (records_of rows) ≡ 7 * length rows
unfolding records_of
records_length [] = refl
records_length (r ∷ rows) = omega (arith, length-append (record_of r) (records_of rows), records_length rows)

pub records_snoc : (rows : List Row) (r : Row) → records_of (rows ++ (r ∷ [])) ≡ records_of rows ++ record_of r
unfolding records_of
records_snoc [] r = append-nil (record_of r)
records_snoc (s ∷ rows) r = ap (λ (ws : List ℕ). record_of s ++ ws) (records_snoc rows r) ∙ sym (append_assoc (record_of s) (records_of rows) (record_of r))

-- ---- replies
bind_given : (reply : Reply (List Row)) → reply ≡ (reply >>= λ rest. given ([] ++ rest))
bind_given (given rows) = refl
bind_given (refused why) = refl

bind_snoc : (done : List Row) (r : Row) (reply : Reply (List Row)) → ((reply >>= λ rest. given (r ∷ rest)) >>= λ rest. given (done ++ rest)) ≡ (reply >>= λ rest. given ((done ++ (r ∷ [])) ++ rest))
bind_snoc done r (given rows) = ap given (sym (append_snoc done r rows))
bind_snoc done r (refused why) = refl

-- a row's place is its cursor's
pub row_place : (strict : Bool) (file : List ℕ) (at : Cursor) {r : Row} → found r ≡ row_by (reading_of strict file) at → r.place ≡ at.place
unfolding row_by
row_place strict file at {r} e = go (entry_by (reading_of strict file) at.place) e where
  go : (answer : Answer Entry) → found r ≡ (A.◌>>=◌ answer (λ entry. found (row_of at entry))) → r.place ≡ at.place
  go (found entry) e = ap (λ (x : Row). x.place) (found_one e)
  go A.failed e = let z : ◌≡◌ {A = ℕ} 0 1 = cc in absurd (omega arith)
  go (A.refused n) e = let z : ◌≡◌ {A = ℕ} 0 1 = cc in absurd (omega arith)

-- a row that may stand next was read
pub next_found : (end : ℕ) (floor : ℤ) (answer : Answer Row) {r : Row} → given r ≡ next_of end floor answer → (found r ≡ answer) × (is_next end floor r ≡ true)
unfolding next_of
next_found end floor (found s) {r} e = go (is_next end floor s) refl e where
  go : (t : Bool) → is_next end floor s ≡ t → given r ≡ (demand t (plain 34) >> given s) → (found r ≡ found s) × (is_next end floor r ≡ true)
  go true so e = let same = given_one e in (ap found same, ap (is_next end floor) same ∙ so)
  go false so e = let z : ◌≡◌ {A = ℕ} 0 1 = cc in absurd (omega arith)
next_found end floor A.failed e = let z : ◌≡◌ {A = ℕ} 0 1 = cc in absurd (omega arith)
next_found end floor (A.refused n) e = let z : ◌≡◌ {A = ℕ} 0 1 = cc in absurd (omega arith)

pub next_fine : (end : ℕ) (floor : ℤ) {answer : Answer Row} {r : Row} → found r ≡ answer → is_next end floor r ≡ true → given r ≡ next_of end floor answer
unfolding next_of
next_fine end floor e t = rw (← e, t)

pub next_not : (end : ℕ) (floor : ℤ) {answer : Answer Row} {r : Row} → found r ≡ answer → is_next end floor r ≡ false → refused (plain 34) ≡ next_of end floor answer
unfolding next_of
next_not end floor e t = rw (← e, t)

pub next_stops : (end : ℕ) (floor : ℤ) {answer : Answer Row} (stop : Stop) → told (Err stop) ≡ answer → refused (plain 34) ≡ next_of end floor answer
unfolding next_of
next_stops end floor Failed e = rw (← e)
next_stops end floor TooLong e = rw (← e)
next_stops end floor Incomplete e = rw (← e)
next_stops end floor OutOfRange e = rw (← e)
next_stops end floor PastEnd e = rw (← e)

-- ---- the loop over the rows
module _ (strict : Bool) (file : List ℕ) (end : ℕ) (start : Cursor) (bottom : ℤ) (before : List ℕ) where
  abbrev rows_at : Cursor → Rows
  rows_at at = rows_from (reading_of strict file) end at

  abbrev whole : Reply (List Row)
  whole = table_from end bottom (rows_at start)

  pub record Tabling (now : List ℕ) (at : Cursor) (floor : ℤ) (place n : ℕ) : Type 0 where
    pub done : List Row
    pub counted : n ≡ length done
    pub few : n + (end - at.place) ≤ end
    pub here : place ≡ records_at + 7 * n
    pub stored : now ≡ sets before records_at (records_of done)
    pub rest : whole ≡ (table_from end floor (rows_at at) >>= λ rest. given (done ++ rest))

  pub tabling_starts : Tabling before start bottom records_at 0
  unfolding records_of
  tabling_starts = record { done = []; counted = refl; few = omega arith; here = refl; stored = refl; rest = bind_given (table_from end bottom (rows_at start)) }

  pub starts_done : tabling_starts.done ≡ []
  unfolding tabling_starts
  starts_done = refl

  module _ {now : List ℕ} {at : Cursor} {floor : ℤ} {place n : ℕ} (g : Tabling now at floor place n) where
    onto : {rows : Rows} → rows_at at ≡ rows → whole ≡ (table_from end floor rows >>= λ rest. given (g.done ++ rest))
    onto {rows} e = g.rest ∙ ap (λ (rs : Rows). table_from end floor rs >>= λ rest. given (g.done ++ rest)) e

    pub tabling_ends : end ≤ at.place → end < 2 ^ 32 → (given g.done ≡ whole) × Recorded before now g.done n
    unfolding table_from
    tabling_ends h small = (
      sym (onto (at_end (reading_of strict file) (reading_grows strict file) at h) ∙ ap given (append-nil g.done)),
      record { counted = g.counted; few = omega (arith, g.few, small); stored = g.stored },
    )

    module _ (more : at.place < end) where
      pub tabling_unreadable : A.failed ≡ row_by (reading_of strict file) at → refused (plain 34) ≡ whole
      unfolding table_from
      tabling_unreadable e = sym (onto (at_unreadable (reading_of strict file) (reading_grows strict file) at more e))

      pub tabling_refused : {k : ℕ} → A.refused k ≡ row_by (reading_of strict file) at → refused (plain 34) ≡ whole
      unfolding table_from
      tabling_refused e = sym (onto (at_refused (reading_of strict file) (reading_grows strict file) at more e))

      module _ {r : Row} (e : found r ≡ row_by (reading_of strict file) at) where
        turned : (next : Cursor) → next ≡ after r →
            whole ≡ ((demand (is_next end floor r) (plain 34) >> (table_from end (lowest r) (rows_at next) >>= λ rest. given (r ∷ rest))) >>= λ rest. given (g.done ++ rest))
        unfolding table_from
        turned next n = onto (at_row (reading_of strict file) (reading_grows strict file) at more e n)

        pub tabling_not_next : is_next end floor r ≡ false → refused (plain 34) ≡ whole
        tabling_not_next wrong = sym (turned (after r) refl ∙ rw wrong)

        pub tabling_less : {next : Cursor} → next ≡ after r → end - next.place < end - at.place
        tabling_less m = row_less (reading_of strict file) (reading_grows strict file) at more e m

        pub tabling_next : {next : Cursor} {after' : List ℕ} {place' : ℕ} → is_next end floor r ≡ true → next ≡ after r → Stored now place (record_of r) after' place' →
            Tabling after' next (lowest r) place' (n + 1)
        tabling_next {next} {after'} {place'} is m s = let long = records_length g.done in
            let at_place : place ≡ records_at + length (records_of g.done) = omega (arith, g.here, g.counted, long) in record {
              done = g.done ++ (r ∷ []);
              counted = omega (arith, g.counted, length-append g.done (r ∷ []));
              few = omega (arith, g.few, tabling_less m);
              here = omega (arith, s.place_after, g.here);
              stored =
                  s.stored
                  ∙ ap (λ (k : ℕ). sets now k (record_of r)) at_place
                  ∙ ap (λ (m : List ℕ). sets m (records_at + length (records_of g.done)) (record_of r)) g.stored
                  ∙ sym (sets_append (records_of g.done) (record_of r) before records_at)
                  ∙ ap (λ (ws : List ℕ). sets before records_at ws) (sym (records_snoc g.done r));
              rest = turned next m ∙ rw is (bind_snoc g.done r (table_from end (lowest r) (rows_at next)));
            }

        pub next_done : {next : Cursor} {after' : List ℕ} {place' : ℕ} (is : is_next end floor r ≡ true) (m : next ≡ after r) (s : Stored now place (record_of r) after' place')
            → (tabling_next is m s).done ≡ g.done ++ (r ∷ [])
        unfolding tabling_next
        next_done is m s = refl

      -- a row that can't stand here
      pub tabling_bad : {why : Refusal} → refused why ≡ next_of end floor (row_by (reading_of strict file) at) → refused why ≡ whole
      unfolding next_of
      tabling_bad {why} e = go (row_by (reading_of strict file) at) refl e where
        go : (answer : Answer Row) → answer ≡ row_by (reading_of strict file) at → refused why ≡ next_of end floor answer → refused why ≡ whole
        go (found r) is e = tested (is_next end floor r) refl e where
          tested : (t : Bool) → is_next end floor r ≡ t → refused why ≡ (demand t (plain 34) >> given r) → refused why ≡ whole
          tested true so e = let z : ◌≡◌ {A = ℕ} 0 1 = cc in absurd (omega arith)
          tested false so e = let same : why ≡ plain 34 = cc in ap refused same ∙ tabling_not_next is so
        go A.failed is e = let same : why ≡ plain 34 = cc in ap refused same ∙ tabling_unreadable is
        go (A.refused n) is e = let same : why ≡ plain 34 = cc in ap refused same ∙ tabling_refused is

-- the rows from the table's first place are the file's
pub same_table : (file : List ℕ) (head : Head) {start : Cursor} → start ≡ start_at head.sections.table →
    table_from head.sections.metadata bottom (rows_from (reading_of head.strict file) head.sections.metadata start) ≡ table_of file head
unfolding table_of rows_in
same_table file head e = ap (λ (s : Cursor). table_from head.sections.metadata bottom (rows_from (reading_of head.strict file) head.sections.metadata s)) e
