-- The rows that are kept, from a cursor on. Assumes nothing.
use Rattle.numbers.proofs.Prelude.{ℕ, ◌-◌, ◌≤◌, ◌<◌, Bool, true, false, List, [], ◌∷◌, ◌≡◌, refl, sym, ap, ◌∙◌, arith}
use Rattle.numbers.{proofs.{Readings.{reading_grows}, Tests.{differ}}, specs.{Answer.{Answer, found, failed}, Reply.{Reply, given, refused}, Varint.{Numeral, told, reading_of}, declared.varint.Stop.{Stop}}}
use Rattle.std.specs.Prelude.{Err}
use Rattle.salvage.proofs.moves.Ends.{by_stop}
use Rattle.header.specs.declared.header.Head.{Head}
use Rattle.table.{proofs.TableRows.{at_end, at_row, at_unreadable, at_refused, row_less}, specs.{Rows.{after, row_by}, declared.rows.{Cursor.{Cursor}, Row.{Row}}}}
use Rattle.salvage.specs.Kept.{entry_good, kept_if, kept_of, kept_from, goodness, LedTo}
use Rattle.numbers.specs.Answer as A

good_given : (g : Reply (Unit {0})) → goodness g ≡ true → g ≡ given tt
good_given (given tt) e = refl
good_given (refused why) e = differ e

kept_if_good : (g : Reply (Unit {0})) → goodness g ≡ true → (r : Row) (rows : List Row) → kept_if g r rows ≡ r ∷ rows
kept_if_good (given tt) e r rows = refl
kept_if_good (refused why) e r rows = differ e

kept_if_bad : (g : Reply (Unit {0})) → goodness g ≡ false → (r : Row) (rows : List Row) → kept_if g r rows ≡ rows
kept_if_bad (given tt) e r rows = differ (sym e)
kept_if_bad (refused why) e r rows = refl

module _ (file : List ℕ) (head : Head) where
  abbrev read : ℕ → Answer Numeral
  read = reading_of head.strict file

  abbrev end : ℕ
  end = head.sections.metadata

  pub kept_end : (at : Cursor) → end ≤ at.place → kept_from file head at ≡ []
  unfolding kept_from kept_of
  kept_end at h = ap (kept_of file head) (at_end read (reading_grows head.strict file) at h)

  module _ (at : Cursor) (more : at.place < end) where
    kept_failed : failed ≡ row_by read at → kept_from file head at ≡ []
    unfolding kept_from kept_of
    kept_failed e = ap (kept_of file head) (at_unreadable read (reading_grows head.strict file) at more e)

    kept_refused : {n : ℕ} → A.refused n ≡ row_by read at → kept_from file head at ≡ []
    unfolding kept_from kept_of
    kept_refused e = ap (kept_of file head) (at_refused read (reading_grows head.strict file) at more e)

    pub kept_stops : (stop : Stop) → told (Err stop) ≡ row_by read at → kept_from file head at ≡ []
    kept_stops = by_stop (λ (a : Answer Row). a ≡ row_by read at → kept_from file head at ≡ []) kept_failed (λ n. kept_refused)

    pub kept_here : {r : Row} {t : Bool} → found r ≡ row_by read at → t ≡ goodness (entry_good file head r) → t ≡ true → LedTo file head at r
    unfolding kept_from kept_of
    kept_here {r} e g t = let good = sym g ∙ t in record {
      more = ap (kept_of file head) (at_row read (reading_grows head.strict file) at more e refl) ∙ kept_if_good (entry_good file head r) good r _;
      good = good_given (entry_good file head r) good;
      fewer = row_less read (reading_grows head.strict file) at more e refl;
    }

    pub kept_not : {r : Row} {next : Cursor} {t : Bool} → found r ≡ row_by read at → next ≡ after r → t ≡ goodness (entry_good file head r) → t ≡ false
        → kept_from file head next ≡ kept_from file head at
    unfolding kept_from kept_of
    kept_not {r} e n g t = sym (ap (kept_of file head) (at_row read (reading_grows head.strict file) at more e n) ∙ kept_if_bad (entry_good file head r) (sym g ∙ t) r _)

    pub walk_less : {r : Row} {next : Cursor} → found r ≡ row_by read at → next ≡ after r → end - next.place < end - at.place
    walk_less e n = row_less read (reading_grows head.strict file) at more e n

  -- from where the walk began
  pub led_from : {from at : Cursor} {r : Row} → kept_from file head at ≡ kept_from file head from → end - at.place ≤ end - from.place → LedTo file head at r → LedTo file head from r
  led_from e h l = record { more = sym e ∙ l.more; good = l.good; fewer = omega (arith, l.fewer) }
