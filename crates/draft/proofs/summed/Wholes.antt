-- The lengths of a builder's texts, tested against the texts. Assumes nothing.
use Rattle.numbers.proofs.Prelude.{ℕ, ◌+◌, ◌-◌, ◌*◌, ◌^◌, ◌≤◌, ◌<◌, eq-eqb, le-leb, leb-true, lt-leb, eqb-true, eqb, leb, length, take, drop, length-drop, length-map}
use Rattle.numbers.proofs.{Prelude.{length-take-le, Bool, true, false, ◌&&◌, List, ◌++◌, map, ◌≡◌, refl, sym, ap, subst, ◌∙◌, arith}, Tests.{both}}
use Rattle.writer.specs.Writer.{every}
use Rattle.builder.specs.{File.{is_text}, Yards.{Text, Plan, cut_by, sum_of}}
use Rattle.build.{proofs.{Slices.{texts_few}, metadata.Begun.{cut_join}, recording.Fewer.{joined_sum}}, specs.Metadata.Kept.{joined}}
use Rattle.draft.proofs.held.{Everyone.{every_more}, Fronts.{front_of_more}, Standing.{few_names, front_first, front_many, held_front, held_names, holds_stands, lengths_split, names_few}}
use Rattle.draft.proofs.{held.{Standing.{readable_parts, strings_inside, texts_split}, Valued.{held_whole}}, summed.Afresh.{held_small}}
use Rattle.draft.specs.{Held.{Builder.{Builder}, State.{Front, Holds, Lists, front_of, values_of}, Totals.{data_of}}, Summed.Ends.{Texts, texts_whole}, declared.held.state.Held.{Held}}

module _ (held : Held) (lengths : List ℕ) where
  abbrev front : Bool
  front = eqb (sum_of (take (held.names + 1) lengths)) held.front

  abbrev values : Bool
  values = eqb (sum_of (take (held.names + 1 + held.names * held.yards - (held.names + 1)) (drop (held.names + 1) lengths))) (held.strings - held.front)

  pub long_strings : 536870912 < held.strings → false ≡ texts_whole held lengths
  unfolding texts_whole
  long_strings h = rw (lt-leb held.strings (2 ^ 29) (omega (arith, h))) refl

  module _ (short : held.strings ≤ 536870912) where
    pub other_front : (b : Bool) → b ≡ front → b ≡ false → false ≡ texts_whole held lengths
    unfolding texts_whole
    other_front b e n = let f : front ≡ false = sym e ∙ n in rw (le-leb held.strings (2 ^ 29) (omega (arith, short)), f) refl

    pub front_then : (b : Bool) → b ≡ front → b ≡ true → (r : Bool) → r ≡ values → r ≡ texts_whole held lengths
    unfolding texts_whole
    front_then b e n r er = let f : front ≡ true = sym e ∙ n in rw (le-leb held.strings (2 ^ 29) (omega (arith, short)), f) er

  module _ (w : texts_whole held lengths ≡ true) where
    told : (leb held.strings (2 ^ 29) ≡ true) × (front ≡ true) × (values ≡ true)
    unfolding texts_whole
    told = let one = both (leb held.strings (2 ^ 29)) (front && values) w in let two = both front values one.1 in (one.0, two.0, two.1)

    pub strings_small : held.strings ≤ 2 ^ 29
    strings_small = leb-true held.strings (2 ^ 29) told.0

    pub front_sum : sum_of (take (held.names + 1) lengths) ≡ held.front
    front_sum = eqb-true (sum_of (take (held.names + 1) lengths)) held.front told.1

    pub values_sum : sum_of (take (held.names + 1 + held.names * held.yards - (held.names + 1)) (drop (held.names + 1) lengths)) ≡ held.strings - held.front
    values_sum = eqb-true (sum_of (take (held.names + 1 + held.names * held.yards - (held.names + 1)) (drop (held.names + 1) lengths))) (held.strings - held.front) told.2

  pub slice_inside : Texts held (length lengths) → held.names + 1 ≤ length lengths
  slice_inside t = omega (arith, t.all)

-- ---- of a builder that calls have made
module _ (b : Builder) (held : Held) (lists : Lists) (h : Holds b held lists) where
  abbrev plan : Plan
  plan = b.plan

  abbrev from : ℕ
  from = held.names + 1

  abbrev all : ℕ
  all = held.names + 1 + held.names * held.yards

  -- the names and the notice
  pub front_lengths : take (held.names + 1) lists.lengths ≡ map length (front_of b.plan)
  front_lengths =
      let lies : Front 0 (map length (front_of plan) ++ map length (values_of plan)) lists.lengths =
      subst (λ (l : List ℕ). Front 0 l lists.lengths) (lengths_split plan b.room h.sound) h.lies.lengths_are in
      let size : held.names + 1 ≡ length (map length (front_of plan)) = omega (arith, held_names b held lists h, length-map (front_of plan) length, front_many plan b.room h.sound) in
      ap (λ (n : ℕ). take n lists.lengths) size ∙ front_of_more 0 (map length (front_of plan)) (map length (values_of plan)) lies

  pub front_texts : take held.front lists.texts ≡ joined (front_of b.plan)
  front_texts =
      let lies : Front 0 (joined (front_of plan) ++ joined (values_of plan)) lists.texts =
      subst (λ (l : List ℕ). Front 0 l lists.texts) (texts_split plan b.room h.sound) h.lies.texts_are in
      ap (λ (n : ℕ). take n lists.texts) (held_front b held lists h) ∙ front_of_more 0 (joined (front_of plan)) (joined (values_of plan)) lies

  front_short : sum_of (map length (front_of b.plan)) ≤ 65280
  front_short = let fs : List Text = front_of plan in let parts = readable_parts plan h.sound.texts in
      let texts : every is_text (cut_by (map length fs) (joined fs)) ≡ true = ap (every is_text) (cut_join fs) ∙ (every_more is_text plan.names plan.notice parts.1.0 ∙ parts.1.1.0) in
      let few = texts_few (map length fs) (joined fs) (omega (arith, joined_sum fs)) texts in
      omega (arith, few, length-map fs length, front_many plan b.room h.sound, names_few plan b.room h.sound)

  values_size : length (take (held.strings - held.front) (drop held.front lists.texts)) ≡ held.strings - held.front
  values_size = length-take-le (held.strings - held.front) (drop held.front lists.texts)
      (omega (arith, length-drop held.front lists.texts, strings_inside b held lists h, front_first b held lists h))

  pub holds_whole : texts_whole held lists.lengths ≡ true
  holds_whole =
      let s = holds_stands b held lists h from all refl refl in
      let ls : List ℕ = take (all - from) (drop from lists.lengths) in
      let ts : List ℕ = take (held.strings - held.front) (drop held.front lists.texts) in
      let first : sum_of (take (held.names + 1) lists.lengths) ≡ held.front = ap sum_of front_lengths ∙ (sym (joined_sum (front_of plan)) ∙ sym (held_front b held lists h)) in
      let second : sum_of (take (held.names + 1 + held.names * held.yards - (held.names + 1)) (drop (held.names + 1) lists.lengths)) ≡ held.strings - held.front =
      sym (held_whole plan.yards (data_of plan) held.names held.yards lists.boxes lists.borders ls ts s) ∙ values_size in
      let short : held.strings ≤ 536870912 =
      omega (
        arith,
        first,
        ap sum_of front_lengths,
        front_short,
        front_first b held lists h,
        values_size,
        held_small plan.yards (data_of plan) held.names held.yards lists.boxes lists.borders ls ts s (few_names b held lists h),
      ) in
      sym (front_then held lists.lengths short true (sym (eq-eqb (sum_of (take (held.names + 1) lists.lengths)) held.front first)) refl true
      (sym (eq-eqb (sum_of (take (held.names + 1 + held.names * held.yards - (held.names + 1)) (drop (held.names + 1) lists.lengths))) (held.strings - held.front) second)))
