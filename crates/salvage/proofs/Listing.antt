-- The list of dropped entries. Assumes nothing.
use Rattle.numbers.proofs.Prelude.{ℕ, zero, suc, ◌+◌, ◌-◌, ◌*◌, ◌/◌, ◌<◌, ltb-true, ltb-false, ltb, length, Bool, true, false, List, ◌∷◌, ◌≡◌, refl, sym, ap, ◌∙◌, arith}
use Rattle.numbers.{proofs.Readings.{Grows, reading_grows}, specs.{Answer.{Answer, found, failed, if◌then◌else◌}, Reply.{Reply, given, refused, plain, demand, ◌or_else◌, ◌>>=◌, ◌>>◌}}}
use Rattle.numbers.specs.{Varint.{Numeral, reading_of}, declared.refusal.Refusal.{Refusal}}
use Rattle.header.specs.declared.{header.Head.{Head}, text.Text.{Text}}
use Rattle.table.{proofs.TableRows.{at_end, at_row, at_unreadable, at_refused, row_less}, specs.Rows.{Rows, row, table_end, after, start_at, rows_then, row_by, rows_within, rows_from, rows_in}}
use Rattle.table.specs.declared.rows.{Cursor.{Cursor}, Row.{Row}}
use Rattle.salvage.specs.Kept.{string_inside, border_good, field_good, fields_good, record_place, entry_good, line_if, lines_from}
use Rattle.salvage.specs.Promises.{border_end, value_at, Strings, no_more, one_more, BadString, unread, outside, later, Whole, Spoilt, border_fails, border_stops, string_spoilt, entry_at, Listed}
use Rattle.salvage.specs.Promises.{keeps, drops, table_ends, entry_fails, entry_stops, ListOf}
use Rattle.numbers.specs.Answer as A

-- ---- an entry whose six numbers were read
-- what is kept, and what is dropped and why
abbrev Judged : (ℕ → Type 0) → Type 0 → Reply (Unit {0}) → Type 0
Judged spoilt whole (given good) = whole
Judged spoilt whole (refused why) = spoilt why.number

module _ (file : List ℕ) (head : Head) where
  strings_judged : (more place : ℕ) → Judged (BadString file head more place) (Strings file head more place) (fields_good file head more place)
  unfolding fields_good field_good
  strings_judged zero place = no_more
  strings_judged (suc more) place = by_value (value_at file head place) refl (strings_judged more) where
    by_place : {text : Text} → value_at file head place ≡ given text → (inside : Bool) → string_inside file head place ≡ inside
        → Judged (BadString file head more text.next) (Strings file head more text.next) (fields_good file head more text.next)
        → Judged (BadString file head (suc more) place) (Strings file head (suc more) place) ((demand inside (plain 72) >> given text.next) >>= fields_good file head more)
    by_place {text} is true i rest = go (fields_good file head more text.next) rest where
      go : (g : Reply (Unit {0})) → Judged (BadString file head more text.next) (Strings file head more text.next) g
          → Judged (BadString file head (suc more) place) (Strings file head (suc more) place) g
      go (given tt) h = one_more is i h
      go (refused why) h = later is i h
    by_place is false i rest = outside is i

    by_value : (v : Reply Text) → value_at file head place ≡ v → ((next : ℕ) → Judged (BadString file head more next) (Strings file head more next) (fields_good file head more next))
        → Judged (BadString file head (suc more) place) (Strings file head (suc more) place) ((v >>= λ text. demand (string_inside file head place)
        (plain 72) >> given text.next) >>= fields_good file head more)
    by_value (given text) is rest = by_place is (string_inside file head place) refl (rest text.next)
    by_value (refused why) is rest = unread is

  entry_judged : (r : Row) → Judged (Spoilt file head r) (Whole file head r) (entry_good file head r)
  unfolding entry_good border_good
  entry_judged r = by_border (border_end file head r) refl where
    by_strings : border_end file head r ≡ found tt → (g : Reply (Unit {0})) → Judged (BadString file head head.preamble.count (record_place file head r))
        (Strings file head head.preamble.count (record_place file head r)) g → Judged (Spoilt file head r) (Whole file head r) g
    by_strings closes (given tt) h = record { closes = closes; strings = h }
    by_strings closes (refused why) h = string_spoilt closes h

    by_border : (end : Answer (Unit {0})) → border_end file head r ≡ end
        → Judged (Spoilt file head r) (Whole file head r) (end or_else plain 71 >> fields_good file head head.preamble.count (record_place file head r))
    by_border (found tt) is = by_strings is (fields_good file head head.preamble.count (record_place file head r)) (strings_judged head.preamble.count (record_place file head r))
    by_border failed is = border_fails is
    by_border (A.refused n) is = border_stops is

  -- ---- one entry after the other
  abbrev end : ℕ
  end = head.sections.metadata

  within : (more number : ℕ) (at : Cursor) → end - at.place < more → Listed file head number at (lines_from file head number (rows_within (reading_of head.strict file) more end at))
  unfolding rows_within lines_from rows_then
  within zero number at h = absurd (omega arith)
  within (suc more) number at h = by_end (ltb at.place end) refl (within more (number + 1)) where
    by_row : at.place < end → (answer : Answer Row) → entry_at file head at ≡ answer
        → ((next : Cursor) → end - next.place < more → Listed file head (number + 1) next (lines_from file head (number + 1) (rows_within (reading_of head.strict file) more end next)))
        → Listed file head number at (lines_from file head number (rows_then answer (rows_within (reading_of head.strict file) more end)))
    by_row here (found r) is rest =
        go (entry_good file head r) (entry_judged r) (rest (after r) (omega (arith, row_less (reading_of head.strict file) (reading_grows head.strict file) at here (sym is) refl))) where
          go : (g : Reply (Unit {0})) → Judged (Spoilt file head r) (Whole file head r) g → {lines : List ℕ} → Listed file head (number + 1) (after r) lines
              → Listed file head number at (line_if g number lines)
          go (given tt) whole l = keeps here is whole l
          go (refused why) spoilt l = drops here is spoilt l
    by_row here failed is rest = entry_fails here is
    by_row here (A.refused n) is rest = entry_stops here is

    by_end : (b : Bool) → ltb at.place end ≡ b
        → ((next : Cursor) → end - next.place < more → Listed file head (number + 1) next (lines_from file head (number + 1) (rows_within (reading_of head.strict file) more end next)))
        → Listed file head number at (lines_from file head number (if b then rows_then (row_by (reading_of head.strict file) at) (rows_within (reading_of head.strict file) more end) else table_end))
    by_end true e rest = by_row (ltb-true _ _ e) (entry_at file head at) refl rest
    by_end false e rest = table_ends (ltb-false _ _ e)

  -- The list is exactly the entries of the old table that do not read whole, each with the first reason met as the file is read, in the old order; after an unreadable one a line 73 ends it.
  pub salvage_list : ListOf file head (lines_from file head 0 (rows_in file head))
  unfolding rows_in rows_from
  salvage_list = within (suc (end - (start_at head.sections.table).place)) 0 (start_at head.sections.table) (omega arith)

  -- it has two words for each line
  pub two_words : {number : ℕ} {at : Cursor} {lines : List ℕ} → Listed file head number at lines → length lines ≡ 2 * (length lines / 2)
  two_words (keeps here is whole l) = two_words l
  two_words (drops here is spoilt l) = omega (arith, two_words l)
  two_words (table_ends past) = refl
  two_words (entry_fails here is) = refl
  two_words (entry_stops here is) = refl

-- ---- and no other list is so
-- a reply that is refused with this number
record Refusing (reply : Reply (Unit {0})) (n : ℕ) : Type 0 where
  why : Refusal
  is : reply ≡ refused why
  number : why.number ≡ n

module _ (file : List ℕ) (head : Head) where
  strings_good : {more place : ℕ} → Strings file head more place → fields_good file head more place ≡ given tt
  unfolding fields_good field_good
  strings_good no_more = refl
  strings_good (one_more is i rest) = rw (is, i) (strings_good rest)

  strings_bad : {more place n : ℕ} → BadString file head more place n → Refusing (fields_good file head more place) n
  unfolding fields_good field_good
  strings_bad (unread {why = why} is) = record { why = why; is = rw is; number = refl }
  strings_bad (outside is i) = record { why = plain 72; is = rw (is, i); number = refl }
  strings_bad (later is i rest) = let r = strings_bad rest in record { why = r.why; is = rw (is, i) r.is; number = r.number }

  whole_good : {r : Row} → Whole file head r → entry_good file head r ≡ given tt
  unfolding entry_good border_good
  whole_good w = rw w.closes (strings_good w.strings)

  spoilt_bad : {r : Row} {n : ℕ} → Spoilt file head r n → Refusing (entry_good file head r) n
  unfolding entry_good border_good
  spoilt_bad (border_fails is) = record { why = plain 71; is = rw is; number = refl }
  spoilt_bad (border_stops {n = n} is) = record { why = plain n; is = rw is; number = refl }
  spoilt_bad (string_spoilt is bad) = let r = strings_bad bad in record { why = r.why; is = rw is r.is; number = r.number }

  kept_line : (number : ℕ) (r : Row) (rows : Rows) → entry_good file head r ≡ given tt → lines_from file head number (row r rows) ≡ lines_from file head (number + 1) rows
  unfolding lines_from
  kept_line number r rows e = rw e

  dropped_line : (number : ℕ) (r : Row) (rows : Rows) {n : ℕ} → Refusing (entry_good file head r) n → lines_from file head number (row r rows) ≡ number ∷ n ∷ lines_from file head (number + 1) rows
  unfolding lines_from
  dropped_line number r rows bad = rw bad.is (ap (λ (n : ℕ). number ∷ n ∷ lines_from file head (number + 1) rows) bad.number)

  abbrev read : ℕ → Answer Numeral
  read = reading_of head.strict file

  abbrev grows : Grows read
  grows = reading_grows head.strict file

  listed_is : {number : ℕ} {at : Cursor} {lines : List ℕ} → Listed file head number at lines → lines ≡ lines_from file head number (rows_from read head.sections.metadata at)
  unfolding lines_from
  listed_is {number} {at} (keeps {r = r} here is whole l) =
      listed_is l ∙ sym (kept_line number r (rows_from read head.sections.metadata (after r)) (whole_good whole)) ∙ ap (lines_from file head number) (sym (at_row read grows at here (sym is) refl))
  listed_is {number} {at} (drops {n = n} {r = r} here is spoilt l) =
      ap (λ (lines : List ℕ). number ∷ n ∷ lines) (listed_is l) ∙ sym (dropped_line number r (rows_from read head.sections.metadata (after r)) (spoilt_bad spoilt))
      ∙ ap (lines_from file head number) (sym (at_row read grows at here (sym is) refl))
  listed_is {number} {at} (table_ends past) = ap (lines_from file head number) (sym (at_end read grows at past))
  listed_is {number} {at} (entry_fails here is) = ap (lines_from file head number) (sym (at_unreadable read grows at here (sym is)))
  listed_is {number} {at} (entry_stops here is) = ap (lines_from file head number) (sym (at_refused read grows at here (sym is)))

  -- Words that are such a list are the words of salvage's list.
  pub list_alone : {lines : List ℕ} → ListOf file head lines → lines ≡ lines_from file head 0 (rows_in file head)
  unfolding rows_in
  list_alone l = listed_is l
