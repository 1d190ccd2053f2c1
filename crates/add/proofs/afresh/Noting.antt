-- What is noted afresh of some yards. Assumes nothing.
use Rattle.numbers.proofs.{Lists.{zeros_drop}, Prelude.{ℕ, ◌+◌, ◌-◌, ◌*◌, ◌^◌, ◌≤◌, ◌<◌, eqb-true, eqb-false, eqb, length, take, drop, length-append, length-replicate}}
use Rattle.numbers.{proofs.Prelude.{length-take-le, take_at, Bool, true, false, List, ◌++◌, map, ◌≡◌, sym, ap, subst, ◌∙◌, mul_comm, arith}, specs.Lists.{zeros}}
use Rattle.builder.{proofs.Counting.{lengths_room}, specs.{Grouping.Items.{starts_from}, Yards.{Yard, sum_of}}}
use Rattle.notes.specs.{Chains.Entered.{Indexed}, inner.Noted.Noting.{NotesAll}}
use Rattle.add.specs.{Growing.Notes.{Notes, notes_as, NotedLists, values_in}, inner.Afresh.Afresh.{Notable, Values, gathered}}
use Rattle.draft.{proofs.held.Fronts.{front_made}, specs.{Held.State.{Front}, inner.Summed.Sums.{begins_of}}}
use Rattle.build.{proofs.recording.Fewer.{joined_sum}, specs.Metadata.Kept.{joined}}

-- ---- the lists that are lent
module _ (names count : ℕ) (lengths : List ℕ) (places marks chains groups begins : ℕ) (n : Notable names count (length lengths) places marks chains groups begins) where
  all_marks : length lengths ≡ count * names
  all_marks = n.all ∙ mul_comm names count

  pub marks_room : length lengths + 1 ≤ marks
  marks_room = omega (arith, all_marks, n.room.marked)

  pub yards_room : (starts : ℕ) → starts ≡ length lengths + 1 → (names ≤ 255) × (count ≤ 4096) × (count * names < starts) × (4096 + count * names ≤ chains) × (4096 + count ≤ groups)
  yards_room starts e = (n.few_names, n.few_yards, omega (arith, e, all_marks), n.room.chained, n.room.grouped)

-- ---- the tests of `note_afresh`
pub sums_small : (lengths texts : List ℕ) → length texts ≤ 536870912 → (b : Bool) → b ≡ eqb (sum_of lengths) (length texts) → b ≡ true → sum_of lengths < 2 ^ 32
sums_small lengths texts small b e n = omega (arith, small, eqb-true (sum_of lengths) (length texts) (sym e ∙ n))

module _ (yards : List Yard) (names count : ℕ) (lengths texts places : List ℕ) (v : Values yards names count lengths texts places) where
  whole : length texts ≡ sum_of lengths
  whole = ap length v.texts_are ∙ (joined_sum (values_in yards) ∙ ap sum_of (sym v.lengths_are))

  pub never_long : names ≤ 255 → count ≤ 4096 → length lengths ≡ names * count → 536870912 < length texts → (notes : Notes) → NotedLists names yards notes
  never_long named few all h notes = absurd (omega (arith, h, whole, v.short, all, lengths_room names count named few))

  pub never_other : (b : Bool) → b ≡ eqb (sum_of lengths) (length texts) → b ≡ false → (notes : Notes) → NotedLists names yards notes
  never_other b e n notes = absurd (eqb-false (sum_of lengths) (length texts) (sym e ∙ n) (sym whole))

-- ---- the marks: where the values begin, over the front of zeros
module _ (lengths zeroed lent : List ℕ) (marks : ℕ) (z : zeroed ≡ zeros marks) (m : lent ≡ starts_from 0 lengths) (room : length lengths + 1 ≤ marks)
    (same : length lent ≡ length (take (length lengths + 1) zeroed)) where
  zeroed_size : length zeroed ≡ marks
  zeroed_size = ap length z ∙ length-replicate marks 0

  lent_size : length lent ≡ length lengths + 1
  lent_size = same ∙ length-take-le (length lengths + 1) zeroed (omega (arith, room, zeroed_size))

  pub marks_size : length (take (length lengths + 1) (lent ++ drop (length lengths + 1) zeroed)) ≡ length lengths + 1
  marks_size = length-take-le (length lengths + 1) (lent ++ drop (length lengths + 1) zeroed) (omega (arith, lent_size, length-append lent (drop (length lengths + 1) zeroed)))

  pub marks_front : take (length lengths + 1) (lent ++ drop (length lengths + 1) zeroed) ≡ starts_from 0 lengths
  marks_front = take_at lent (drop (length lengths + 1) zeroed) (length lengths + 1) lent_size ∙ m

  pub marks_made : Front 0 (starts_from 0 lengths) (lent ++ drop (length lengths + 1) zeroed)
  marks_made =
      front_made 0 (starts_from 0 lengths) (lent ++ drop (length lengths + 1) zeroed) (marks - (length lengths + 1))
      (ap (λ (l : List ℕ). l ++ drop (length lengths + 1) zeroed) m ∙ ap (λ (l : List ℕ). starts_from 0 lengths ++ l) (ap (drop (length lengths + 1)) z ∙ zeros_drop (length lengths + 1) marks))

-- ---- all four lists
pub noted_lists : (yards : List Yard) (names count : ℕ) (lengths texts places : List ℕ) → Values yards names count lengths texts places → length lengths ≡ names * count
    → (marks starts chains groups begins : List ℕ) (room : ℕ) → Front 0 (starts_from 0 lengths) marks → starts ≡ starts_from 0 lengths → NotesAll names count starts texts chains groups
    → begins ≡ gathered places count ++ zeros (room - count) → NotedLists names yards (notes_as marks chains groups begins)
noted_lists yards names count lengths texts places v all marks starts chains groups begins room front is notes gathers =
    let indexed : Indexed names lengths texts count chains groups = notes lengths is (omega (arith, whole yards names count lengths texts places v)) (omega (arith, all, mul_comm names count)) in
    record {
      marks_are = subst (λ (l : List ℕ). Front 0 (starts_from 0 l) marks) v.lengths_are front;
      indexed = subst (λ (n : ℕ). Indexed names (map length (values_in yards)) (joined (values_in yards)) n chains groups) v.many
          (subst (λ (l : List ℕ). Indexed names (map length (values_in yards)) l count chains groups) v.texts_are
          (subst (λ (l : List ℕ). Indexed names l texts count chains groups) v.lengths_are indexed));
      begins_are = front_made 0 (begins_of yards) begins (room - count) (gathers ∙ ap (λ (l : List ℕ). l ++ zeros (room - count)) v.begins);
    }
