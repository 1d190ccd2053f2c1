-- The loop that writes the marks of a border. Assumes nothing.
use Rattle.numbers.proofs.Prelude.{ℕ, ◌+◌, ◌-◌, ◌*◌, ◌^◌, ◌<◌, List, [], ◌∷◌, ◌++◌, ◌≡◌, subst, arith}
use Rattle.border.specs.declared.reader.{Encoding.{Encoding}, Reader.{Reader}}
use Rattle.writer.{proofs.Stores.{Left, left_step, left_none, stored_then}, specs.inner.Stored.{Stored}}
use Rattle.marks.specs.Marks.{Span, span_from, mark_of, marks_from, counted}
use Rattle.atlas.proofs.Standing.{next_marks, no_marks, counted_some}

module _ (edges : ℕ) (file : List ℕ) (encoding : Encoding) (before : List ℕ) (place : ℕ) (all : List ℕ) where
  -- the marks of so many stretches are left to store of all
  pub record Writing (now : List ℕ) (left at : ℕ) (reader : Reader) : Type 0 where
    pub rest : Left before place all now at (marks_from edges left file encoding reader)
    pub room : at + 11 * left < 2 ^ 58

  module _ {now : List ℕ} {left at : ℕ} {reader : Reader} (w : Writing now left at reader) where
    pub writing_on : {span : Span} → span ≡ span_from edges file encoding reader → 0 < left → {after : List ℕ} {next : ℕ} → Stored now at (mark_of reader span.box) after next
        → Writing after (left - 1) next span.last
    writing_on {span} is more {after} {next} s =
        record {
          rest = left_step (mark_of reader span.box) (subst (Left before place all now at) (next_marks edges file encoding before reader is left at more) w.rest) s;
          room = omega (arith, w.room, s.place_after, more);
        }

    pub writing_done : left ≡ 0 → Stored before place all now at
    writing_done e = left_none (subst (Left before place all now at) (no_marks edges file encoding reader left e) w.rest)

-- how many stretches, then their marks and those of their groups
pub levels_stored : {before middle later after : List ℕ} {place second third end : ℕ} (count : ℕ) (fine coarse : List ℕ) → (count ≡ 0 → ⊥)
    → Stored before place (count ∷ []) middle second → Stored middle second fine later third → {groups : List ℕ} → groups ≡ coarse → Stored later third groups after end
    → Stored before place (counted count (fine ++ coarse)) after end
levels_stored {later = later} {after} {third = third} {end} count fine coarse some a b e c =
    rw (counted_some count (fine ++ coarse) some) (stored_then (count ∷ []) (fine ++ coarse) a (stored_then fine coarse b (subst (λ (xs : List ℕ). Stored later third xs after end) e c)))
