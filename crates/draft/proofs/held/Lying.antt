-- How a plan lies in the lists after each call, and the builder's numbers with it. Assumes nothing.
use Rattle.numbers.proofs.Prelude.{ℕ, ◌+◌, ◌*◌, ◌≤◌, ◌<◌, pos, length, take, drop, get_or, length-take, take-append-drop, length-take-le, true, List, [], ◌∷◌, ◌++◌, map, ◌≡◌, refl, sym, ap}
use Rattle.numbers.proofs.Prelude.{subst, ◌∙◌}
use Rattle.numbers.{proofs.Prelude.{arith}, specs.Reply.{given}}
use Rattle.builder.specs.{Borders.{with_border}, File.{are_texts, head_of, up_to}, Yards.{Text, Plan, Yard, sum_of}}
use Rattle.build.{proofs.entries.Tabled.{corners_size}, specs.Entries.Corners.{corners_of}}
use Rattle.draft.proofs.held.{Kept.{dropped_data, dropped_sound, joined_data, replaced_data}, Redrawn.{data_many, place_inside}, Standing.{texts_many}}
use Rattle.draft.proofs.held.Texts.{corners_changed, corners_split, dropped_lengths, dropped_strings, joined_corners, joined_lengths, joined_strings, rest_values}
use Rattle.draft.specs.Held.{Builder.{Builder, Offered, holding, joined, summed, yard_of, changed_at, with_value}, Sound.{Sound}, State.{Front, Holds, Lies, Lists, held_as, texts_of, held_with}}
use Rattle.draft.specs.{Held.Totals.{data_of, totals_of}, declared.held.state.Held.{Held}}
use Rattle.build.specs.Metadata.Kept as Words

-- ---- the numbers: of what a plan is like none changes; the bytes of all texts and the totals do
module _ (b : Builder) (held : Held) (lists : Lists) (h : Holds b held lists) (strings : ℕ) (after : Lists) where
  -- with other yards
  module _ (yards : List Yard) where
    abbrev other : Plan
    other = holding b.plan yards

    other_numbers : strings ≡ length (Words.joined (texts_of other)) → held_with held strings (totals_of other) ≡ held_as (summed other b.room)
    unfolding summed head_of
    other_numbers e = ap (λ (x : Held). held_with x strings (totals_of other)) h.is ∙ ap (λ (n : ℕ). held_with (held_as b) n (totals_of other)) e

    pub holds_other : strings ≡ length (Words.joined (texts_of other)) → Sound other b.room → Lies other (data_of other) after
        → Holds (summed other b.room) (held_with held strings (totals_of other)) after
    unfolding summed
    holds_other e sound lies = record { is = other_numbers e; sound = sound; fresh = refl; lies = lies }

  -- with a yard more
  module _ (o : Offered) where
    abbrev more_held : Plan
    more_held = joined b.plan o

    joined_numbers : strings ≡ length (Words.joined (texts_of more_held)) → held_with held strings (totals_of more_held) ≡ held_as (summed more_held b.room)
    unfolding summed joined head_of
    joined_numbers e = ap (λ (x : Held). held_with x strings (totals_of more_held)) h.is ∙ ap (λ (n : ℕ). held_with (held_as b) n (totals_of more_held)) e

    pub holds_joined : strings ≡ length (Words.joined (texts_of more_held)) → Sound more_held b.room → Lies more_held (data_of more_held) after
        → Holds (summed more_held b.room) (held_with held strings (totals_of more_held)) after
    unfolding summed
    holds_joined e sound lies = record { is = joined_numbers e; sound = sound; fresh = refl; lies = lies }

-- ---- the lists of a plan with a yard more
module _ (plan : Plan) (room : ℕ) (sound : Sound plan room) (o : Offered) (wide : ℕ) (narrow : wide ≤ up_to room) (more : List ℕ)
    (border : with_border plan.version wide (data_of plan).bytes (yard_of o) ≡ given more) (texts : are_texts o.lengths o.texts ≡ true) where
  pub lies_joined : (after : Lists) → Front (pos 0) (corners_of plan.yards ++ corners_of (yard_of o ∷ [])) after.boxes
      → Front 0 ((data_of plan).places ++ (length (data_of plan).bytes ∷ [])) after.borders → Front 0 (map length (texts_of plan) ++ o.lengths) after.lengths
      → Front 0 (Words.joined (texts_of plan) ++ take (sum_of o.lengths) o.texts) after.texts → Front 0 more after.bytes → Lies (joined plan o) (data_of (joined plan o)) after
  lies_joined after boxes borders lengths strings bytes = let drawn = joined_data plan room sound o wide narrow more border in record {
    boxes_are = subst (λ l. Front (pos 0) l after.boxes) (sym (joined_corners plan o)) boxes;
    borders_are = subst (λ d. Front 0 d.places after.borders) (sym drawn) borders;
    lengths_are = subst (λ (l : List ℕ). Front 0 l after.lengths) (sym (joined_lengths plan o texts)) lengths;
    texts_are = subst (λ (l : List ℕ). Front 0 l after.texts) (sym (joined_strings plan o)) strings;
    bytes_are = subst (λ d. Front 0 d.bytes after.bytes) (sym drawn) bytes;
  }

-- ---- of one with the first so many yards: what lies there now, and where the parts that stay end
module _ (plan : Plan) (room : ℕ) (sound : Sound plan room) (n : ℕ) (h : n < length plan.yards) where
  abbrev fewer : Plan
  fewer = holding plan (take n plan.yards)

  -- where the first border that goes begins
  abbrev pub cut_at : ℕ
  cut_at = get_or (data_of plan).places n 0

  pub record Splits (lists : Lists) : Type 0 where
    pub boxes_are : Front (pos 0) (corners_of (take n plan.yards) ++ corners_of (drop n plan.yards)) lists.boxes
    pub borders_are : Front 0 (take n (data_of plan).places ++ drop n (data_of plan).places) lists.borders
    pub lengths_are : Front 0 (map length (texts_of fewer) ++ map length (rest_values plan n)) lists.lengths
    pub texts_are : Front 0 (Words.joined (texts_of fewer) ++ Words.joined (rest_values plan n)) lists.texts
    pub bytes_are : Front 0 (take cut_at (data_of plan).bytes ++ drop cut_at (data_of plan).bytes) lists.bytes

  pub lies_splits : (lists : Lists) → Lies plan (data_of plan) lists → Splits lists
  lies_splits lists lies =
      record {
        boxes_are = subst (λ l. Front (pos 0) l lists.boxes) (corners_split n plan.yards) lies.boxes_are;
        borders_are = subst (λ (l : List ℕ). Front 0 l lists.borders) (sym (take-append-drop n (data_of plan).places)) lies.borders_are;
        lengths_are = subst (λ (l : List ℕ). Front 0 l lists.lengths) (dropped_lengths plan n) lies.lengths_are;
        texts_are = subst (λ (l : List ℕ). Front 0 l lists.texts) (dropped_strings plan n) lies.texts_are;
        bytes_are = subst (λ (l : List ℕ). Front 0 l lists.bytes) (sym (take-append-drop cut_at (data_of plan).bytes)) lies.bytes_are;
      }

  pub fewer_yards : length (take n plan.yards) ≡ n
  fewer_yards = omega (arith, length-take n plan.yards, h)

  pub boxes_end : 4 * n ≡ length (corners_of (take n plan.yards))
  boxes_end = omega (arith, corners_size (take n plan.yards), fewer_yards)

  pub borders_end : n ≡ length (take n (data_of plan).places)
  borders_end = omega (arith, length-take n (data_of plan).places, data_many plan room sound, h)

  pub lengths_end : length plan.names + 1 + length plan.names * n ≡ length (map length (texts_of fewer))
  lengths_end = sym (texts_many fewer room (dropped_sound plan room sound n h) ∙ ap (λ (k : ℕ). length plan.names + 1 + length plan.names * k) fewer_yards)

  pub bytes_end : cut_at ≡ length (take cut_at (data_of plan).bytes)
  bytes_end = sym (length-take-le cut_at (data_of plan).bytes (place_inside plan room sound n h))

  pub lies_dropped : (after : Lists) → Front (pos 0) (corners_of (take n plan.yards)) after.boxes → Front 0 (take n (data_of plan).places) after.borders
      → Front 0 (map length (texts_of fewer)) after.lengths → Front 0 (Words.joined (texts_of fewer)) after.texts → Front 0 (take cut_at (data_of plan).bytes) after.bytes
      → Lies fewer (data_of fewer) after
  lies_dropped after boxes borders lengths strings bytes = let drawn = dropped_data plan room sound n h in record {
    boxes_are = boxes;
    borders_are = subst (λ d. Front 0 d.places after.borders) (sym drawn) borders;
    lengths_are = lengths;
    texts_are = strings;
    bytes_are = subst (λ d. Front 0 d.bytes after.bytes) (sym drawn) bytes;
  }

-- ---- of one with another value: boxes, borders and data stay
pub lies_replaced : (plan : Plan) (room : ℕ) → Sound plan room → (yard field : ℕ) (text : Text) → let other = holding plan (changed_at yard (with_value field text) plan.yards) in
    (lists after : Lists) → Lies plan (data_of plan) lists → after.boxes ≡ lists.boxes → after.borders ≡ lists.borders → after.bytes ≡ lists.bytes
    → Front 0 (map length (texts_of other)) after.lengths → Front 0 (Words.joined (texts_of other)) after.texts → Lies other (data_of other) after
lies_replaced plan room sound yard field text lists after lies boxes borders bytes lengths strings =
    let drawn = replaced_data plan room sound yard field text in record {
      boxes_are = subst (λ l. Front (pos 0) (corners_of (changed_at yard (with_value field text) plan.yards)) l) (sym boxes) (subst (λ l. Front (pos 0) l
          lists.boxes) (sym (corners_changed field text yard plan.yards)) lies.boxes_are);
      borders_are = subst (λ (l : List ℕ). Front 0 (data_of (holding plan (changed_at yard (with_value field text) plan.yards))).places l) (sym borders)
          (subst (λ d. Front 0 d.places lists.borders) (sym drawn) lies.borders_are);
      lengths_are = lengths;
      texts_are = strings;
      bytes_are = subst (λ (l : List ℕ). Front 0 (data_of (holding plan (changed_at yard (with_value field text) plan.yards))).bytes l) (sym bytes)
          (subst (λ d. Front 0 d.bytes lists.bytes) (sym drawn) lies.bytes_are);
    }
