-- A builder whose last yard is dropped: the sums of what is left, and the lists cut. Assumes nothing.
use Rattle.numbers.proofs.Prelude.{ℕ, ◌+◌, ◌-◌, ◌*◌, ◌≤◌, ◌<◌, lt-ltb, eqb, pos, length, take, drop, get_or, length-append, length-drop, length-map, length-take-le, Bool, true}
use Rattle.numbers.{proofs.Prelude.{List, ◌++◌, map, ◌≡◌, refl, sym, ap, subst, ◌∙◌, arith}, specs.{Reply.{refused, Reply, given, plain, demand, ◌>>◌}, declared.refusal.Refusal.{Refusal}}}
use mathlib.Core.Bool.{false≢true}
use Rattle.build.{proofs.metadata.Shared.{flat_more, map_more}, specs.{Entries.Corners.{corners_of}, Metadata.Kept.{joined}, Room.{enough}}}
use Rattle.builder.{proofs.Counting.{lengths_room}, specs.{Borders.{Drawn}, File.{is_text}, Yards.{Plan, Text, Yard, sum_of}}}
use Rattle.draft.proofs.held.{Everyone.{every_take}, Fronts.{front_of_more, front_part}, Kept.{dropped_data}, Lying.{Splits, boxes_end, borders_end, bytes_end, holds_other, lengths_end}}
use Rattle.draft.proofs.held.{Lying.{lies_dropped, lies_splits}, Redrawn.{drawn_to}, Standing.{fields_short, front_many, held_front, held_names, readable_parts}, Stood.{Stood, stood, work_enough}}
use Rattle.draft.proofs.held.Texts.{dropped_values, rest_values, values_in}
use Rattle.draft.specs.Held.{Builder.{Builder, drop_last, holding, summed}, Space.{long_enough, work_in}, State.{held_with, Answers, Holds}}
use Rattle.draft.specs.{Held.{State.{Lies, Lists, SameRooms, Stands, front_of, texts_of, values_of}, Totals.{Totals, data_of, totals_for, totals_of}}, declared.held.room.Rooms.{Rooms}}
use Rattle.draft.specs.{declared.{held.state.Held.{Held}, summed.sums.Sums.{Sums}}, inner.Summed.Sums.{Summing, SumsUp, sums_of}}
use Rattle.writer.specs.Writer.{every}
use Rattle.edit.proofs.changing.{Cuts.{cut_front, cut_rooms}, Lasts.{fewer_sound, kept_many, last_place, left_is, left_less, left_many, left_strings}}
use Rattle.edit.specs.{Changing.Dropped.{Drops, last_size, left_space}, inner.Changing.{Cut.{Inside, cut_to}, Dropped.{Lent, Shortened, Shortens, ends_of, short_of, with_sums}}}
use Rattle.std.specs.Prelude.{Option, Some, None}

-- the lists as they are lent
pub lent_here : {own : Lists} {starts keys spare kept held words places : ℕ} → Lent (record {
  boxes = length own.boxes;
  borders = length own.borders;
  lengths = length own.lengths;
  texts = length own.texts;
  bytes = length own.bytes;
  starts = starts;
  keys = keys;
  spare = spare;
  kept = kept;
  held = held;
  words = words;
  places = places;
}) own
lent_here = record { boxes = refl; borders = refl; lengths = refl; texts = refl; bytes = refl }

-- ---- the numbers of what is left
module _ (builder : Held) (rooms : Rooms) (borders lengths : List ℕ) (held : Held) (s : Shortened builder rooms borders lengths held) where
  abbrev short : Held
  short = short_of builder (builder.strings - last_size builder lengths) (get_or borders (builder.yards - 1) 0)

  names_is : held.names ≡ builder.names
  unfolding short_of
  names_is = ap (λ (x : Held). x.names) s.is

  yards_is : held.yards ≡ builder.yards - 1
  unfolding short_of
  yards_is = ap (λ (x : Held). x.yards) s.is

  front_is : held.front ≡ builder.front
  unfolding short_of
  front_is = ap (λ (x : Held). x.front) s.is

  strings_is : held.strings ≡ builder.strings - last_size builder lengths
  unfolding short_of
  strings_is = ap (λ (x : Held). x.strings) s.is

  bytes_is : held.bytes ≡ get_or borders (builder.yards - 1) 0
  unfolding short_of
  bytes_is = ap (λ (x : Held). x.bytes) s.is

  all : Stood builder rooms
  all = stood builder rooms s.stands

  pub names_few : held.names ≤ 255
  names_few = omega (arith, names_is, all.few_names)

  pub yards_few : held.yards ≤ 4096
  yards_few = omega (arith, yards_is, all.few_yards)

  pub product_few : held.names * held.yards ≤ 1044480
  product_few = lengths_room held.names held.yards names_few yards_few

  pub front_order : held.front ≤ held.strings
  front_order = omega (arith, front_is, strings_is, s.last_in, all.front_first)

  product_less : held.names * held.yards ≤ builder.names * builder.yards
  product_less = let up : builder.yards ≡ builder.yards - 1 + 1 = omega (arith, s.some) in
      let times : builder.names * builder.yards ≡ builder.names * (builder.yards - 1 + 1) = ap (λ (k : ℕ). builder.names * k) up in
      let more : builder.names * (builder.yards - 1 + 1) ≡ builder.names * (builder.yards - 1) + builder.names = omega arith in
      let same : held.names * held.yards ≡ builder.names * (builder.yards - 1) = ap (λ (k : ℕ). k * held.yards) names_is ∙ ap (λ (k : ℕ). builder.names * k) yards_is in
      omega (arith, times, more, same)

  module _ (lists : Lists) (l : Lent rooms lists) where
    pub left_inside : Inside (ends_of held) lists
    unfolding ends_of
    left_inside =
        record {
          boxes_in = omega (arith, all.own.boxes_room, l.boxes, yards_is);
          borders_in = omega (arith, all.own.borders_room, l.borders, yards_is);
          lengths_in = omega (arith, all.own.lengths_all, l.lengths, product_less, names_is);
          texts_in = omega (arith, all.own.texts_room, l.texts, strings_is);
          bytes_in = omega (arith, all.bytes_room, l.bytes, bytes_is, s.bytes_in);
        }

    pub lengths_in : held.names + 1 + held.names * held.yards ≤ length lists.lengths
    unfolding ends_of
    lengths_in = left_inside.lengths_in

    pub texts_in : held.strings ≤ length lists.texts
    unfolding ends_of
    texts_in = left_inside.texts_in

    pub borders_in : held.yards ≤ length lists.borders
    unfolding ends_of
    borders_in = left_inside.borders_in

    -- what the sums ask for, of `lengths[from..to]` and `texts[front..strings]`
    pub left_summing : (from to : ℕ) → from ≡ held.names + 1 → to ≡ from + held.names * held.yards → Summing held.names held.yards
        (length (take (to - from) (drop from lists.lengths))) (length lists.borders) (length (take (held.strings - held.front) (drop held.front lists.texts)))
        (work_in rooms)
    left_summing from to ef et =
        let size : length (take (held.strings - held.front) (drop held.front lists.texts)) ≡ builder.strings - last_size builder lengths - builder.front =
        length-take-le (held.strings - held.front) (drop held.front lists.texts) (omega (arith, length-drop held.front lists.texts, texts_in)) ∙ omega (arith, strings_is, front_is) in
        let enough_is : enough (work_in rooms) (builder.yards - 1)
        (builder.names * (builder.yards - 1)) (builder.strings - last_size builder lengths - builder.front) ≡ true =
        work_enough rooms builder.names (builder.yards - 1) builder.front (builder.strings - last_size builder lengths) s.room in
        let work = work_in rooms in
        record {
          named = names_few;
          few = yards_few;
          all = length-take-le (to - from) (drop from lists.lengths) (omega (arith, length-drop from lists.lengths, ef, et, lengths_in)) ∙ omega (arith, ef, et);
          bordered = borders_in;
          room = ap (λ (k : ℕ). enough work k (held.names * k) (length (take (held.strings - held.front) (drop held.front lists.texts)))) yards_is
              ∙ (ap (λ (k : ℕ). enough work (builder.yards - 1) (k * (builder.yards - 1)) (length (take (held.strings - held.front) (drop held.front lists.texts)))) names_is
              ∙ (ap (enough work (builder.yards - 1) (builder.names * (builder.yards - 1))) size ∙ enough_is));
        }

-- ---- of a builder that calls have made
module _ (b : Builder) (builder : Held) (rooms : Rooms) (before : Lists) (h : Holds b builder before) (held : Held) (s : Shortened builder rooms before.borders before.lengths held) where
  abbrev plan : Plan
  plan = b.plan

  abbrev n : ℕ
  n = length b.plan.yards - 1

  less : n < length plan.yards
  less = left_less b builder before h s.some

  names_are : held.names ≡ length plan.names
  names_are = names_is builder rooms before.borders before.lengths held s ∙ held_names b builder before h

  yards_are : held.yards ≡ n
  yards_are = yards_is builder rooms before.borders before.lengths held s ∙ left_is b builder before h s.some

  front_are : held.front ≡ length (joined (front_of plan))
  front_are = front_is builder rooms before.borders before.lengths held s ∙ held_front b builder before h

  strings_are : held.strings ≡ length (joined (texts_of (holding plan (take n plan.yards))))
  strings_are = strings_is builder rooms before.borders before.lengths held s ∙ left_strings b builder before h s.some

  bytes_are : held.bytes ≡ get_or (data_of plan).places n 0
  bytes_are = bytes_is builder rooms before.borders before.lengths held s ∙ last_place b builder before h s.some

  splits : Splits plan b.room h.sound n less before
  splits = lies_splits plan b.room h.sound n less before h.lies

  -- the sums may be taken of the lists as they are
  left_stands : (from to : ℕ) → from ≡ held.names + 1 → to ≡ from + held.names * held.yards → Stands (take n plan.yards) (drawn_to (data_of plan) n)
      held.names held.yards before.boxes before.borders (take (to - from) (drop from before.lengths)) (take (held.strings - held.front) (drop held.front before.texts))
  left_stands from to ef et =
      let kept : List Text = values_in (take n plan.yards) in
      let gone : List Text = rest_values plan n in
      let values : values_of plan ≡ kept ++ gone = dropped_values plan n in
      let lengths_all : map length (texts_of plan) ≡ map length (front_of plan) ++ (map length kept ++ map length gone) =
      map_more length (front_of plan) (values_of plan) ∙ ap (λ (l : List ℕ). map length (front_of plan) ++ l) (ap (map length) values ∙ map_more length kept gone) in
      let texts_all : joined (texts_of plan) ≡ joined (front_of plan) ++ (joined kept ++ joined gone) =
      flat_more (λ (t : Text). t) (front_of plan) (values_of plan) ∙ ap (λ (l : List ℕ). joined (front_of plan) ++ l) (ap joined values ∙ flat_more (λ (t : Text). t) kept gone) in
      let front_size : length (map length (front_of plan)) ≡ length plan.names + 1 = length-map (front_of plan) length ∙ front_many plan b.room h.sound in
      let kept_size : length (map length (front_of plan)) + length (map length kept) ≡ to =
      sym (length-append (map length (front_of plan)) (map length kept)) ∙
      (ap length (sym (map_more length (front_of plan) kept)) ∙
      (kept_many b builder before h s.some ∙ omega (arith, ef, et, products, names_is builder rooms before.borders before.lengths held s))) in
      let lengths_lie : take (to - from) (drop from before.lengths) ≡ map length kept =
      front_part 0 h.lies.lengths_are (map length (front_of plan)) (map length kept) (map length gone) lengths_all from to (omega (arith, ef, front_size, names_are)) (sym kept_size) in
      record {
        many = yards_are ∙ sym (left_many b builder before h s.some);
        few = yards_few builder rooms before.borders before.lengths held s;
        valued = ap (λ (k : ℕ). every (λ y. eqb k (length y.values)) (take n plan.yards)) names_are ∙
            every_take (λ (y : Yard). eqb (length plan.names) (length y.values)) n plan.yards h.sound.valued;
        drawn_many = sym (borders_end plan b.room h.sound n less) ∙ sym (left_many b builder before h s.some);
        boxes_are = ap (λ (k : ℕ). take k before.boxes) (ap (λ (k : ℕ). 4 * k) yards_are ∙ boxes_end plan b.room h.sound n less) ∙
            front_of_more (pos 0) (corners_of (take n plan.yards)) (corners_of (drop n plan.yards)) splits.boxes_are;
        borders_are = ap (λ (k : ℕ). take k before.borders) (yards_are ∙ borders_end plan b.room h.sound n less) ∙
            front_of_more 0 (take n (data_of plan).places) (drop n (data_of plan).places) splits.borders_are;
        lengths_are = lengths_lie;
        texts_are = front_part 0 h.lies.texts_are (joined (front_of plan)) (joined kept) (joined gone) texts_all held.front held.strings front_are
            (strings_are ∙ (ap length (flat_more (λ (t : Text). t) (front_of plan) kept) ∙ length-append (joined (front_of plan)) (joined kept)));
        short = omega (
          arith,
          ap sum_of lengths_lie,
          ap length lengths_lie,
          length-map kept length,
          fields_short (take n plan.yards) (every_take (λ (y : Yard). every is_text y.values) n plan.yards (readable_parts plan h.sound.texts).1.1.1),
        );
      } where
        products : held.names * held.yards ≡ builder.names * (builder.yards - 1)
        products = ap (λ (k : ℕ). k * held.yards) (names_is builder rooms before.borders before.lengths held s) ∙
            ap (λ (k : ℕ). builder.names * k) (yards_is builder rooms before.borders before.lengths held s)

  -- the lists, cut
  left_lies : Lies (holding plan (take n plan.yards)) (data_of (holding plan (take n plan.yards))) (cut_to (ends_of held) before)
  unfolding cut_to ends_of
  left_lies =
      let product : held.names * held.yards ≡ length plan.names * n = ap (λ (k : ℕ). k * held.yards) names_are ∙ ap (λ (k : ℕ). length plan.names * k) yards_are in
      lies_dropped plan b.room h.sound n less (cut_to (ends_of held) before) (cut_front (pos 0) (corners_of (take n plan.yards)) (corners_of (drop n plan.yards)) _
      before.boxes refl splits.boxes_are (4 * held.yards) (ap (λ (k : ℕ). 4 * k) yards_are ∙ boxes_end plan b.room h.sound n less))
      (cut_front 0 (take n (data_of plan).places) (drop n (data_of plan).places) _ before.borders refl splits.borders_are held.yards (yards_are
      ∙ borders_end plan b.room h.sound n less)) (cut_front 0 (map length (texts_of (holding plan (take n plan.yards)))) (map length (rest_values plan n)) _
      before.lengths refl splits.lengths_are (held.names + 1 + held.names * held.yards) (omega (arith, names_are, product, lengths_end plan b.room h.sound n less)))
      (cut_front 0 (joined (texts_of (holding plan (take n plan.yards)))) (joined (rest_values plan n)) _ before.texts refl splits.texts_are
      held.strings strings_are) (cut_front 0 (take (get_or (data_of plan).places n 0) (data_of plan).bytes) (drop (get_or (data_of plan).places n 0) (data_of plan).bytes) _
      before.bytes refl splits.bytes_are held.bytes (bytes_are ∙ bytes_end plan b.room h.sound n less))

  -- the numbers
  left_totals : totals_of (holding plan (take n plan.yards)) ≡ totals_for (take n plan.yards) (drawn_to (data_of plan) n)
  unfolding totals_of
  left_totals = ap (totals_for (take n plan.yards)) (dropped_data plan b.room h.sound n less)

  abbrev totals : Totals
  totals = totals_for (take n plan.yards) (drawn_to (data_of plan) n)

  abbrev left_sums : Sums
  left_sums = sums_of (take n plan.yards) (drawn_to (data_of plan) n)

  totals_bytes : totals.bytes ≡ held.bytes
  unfolding totals_for
  totals_bytes = sym (bytes_are ∙ bytes_end plan b.room h.sound n less)

  totals_yards : totals.yards ≡ held.yards
  unfolding totals_for
  totals_yards = left_many b builder before h s.some ∙ sym yards_are

  left_numbers : with_sums held totals.table totals.metadata totals.greatest ≡ held_with builder held.strings (totals_of (holding plan (take n plan.yards)))
  unfolding with_sums short_of
  left_numbers = let t : Totals = totals in
      ap (λ (x : Held). with_sums x t.table t.metadata t.greatest) s.is
      ∙ (ap (λ (k : ℕ). held_with builder k
      (record { table = t.table; metadata = t.metadata; bytes = get_or before.borders (builder.yards - 1) 0; yards = builder.yards - 1; greatest = t.greatest }))
      (sym (strings_is builder rooms before.borders before.lengths held s))
      ∙ (ap (λ (k : ℕ). held_with builder held.strings (record { table = t.table; metadata = t.metadata; bytes = k; yards = builder.yards - 1; greatest = t.greatest }))
      (sym (bytes_is builder rooms before.borders before.lengths held s) ∙ sym totals_bytes)
      ∙ (ap (λ (k : ℕ). held_with builder held.strings (record { table = t.table; metadata = t.metadata; bytes = t.bytes; yards = k; greatest = t.greatest }))
      (sym (yards_is builder rooms before.borders before.lengths held s) ∙ sym totals_yards)
      ∙ ap (held_with builder held.strings) (sym left_totals))))

  left_holds : Holds (summed (holding plan (take n plan.yards)) b.room) (with_sums held totals.table totals.metadata totals.greatest) (cut_to (ends_of held) before)
  left_holds =
      subst (λ (x : Held). Holds (summed (holding plan (take n plan.yards)) b.room) x (cut_to (ends_of held) before)) (sym left_numbers)
      (holds_other b builder before h held.strings (cut_to (ends_of held) before) (take n plan.yards) strings_are (fewer_sound b builder before h s.some) left_lies)

  left_given : drop_last b (left_space builder rooms before.lengths) ≡ given (summed (holding plan (take n plan.yards)) b.room)
  unfolding drop_last left_space
  left_given = let last : Reply Builder = given (summed (holding plan (take n plan.yards)) b.room) in
      ap (λ (x : Bool). demand x (plain 29) >> (demand (long_enough rooms builder.names (builder.yards - 1) builder.front (builder.strings - last_size builder before.lengths))
      (plain 28) >> last)) (lt-ltb 0 (length plan.yards) (omega (arith, less))) ∙ ap (λ (x : Bool). demand x (plain 28) >> last) s.room

-- ---- `drop_yard`
never : {A : Type 0} {a : A} → None ≡ Some a → ⊥
never e = let z : ◌≡◌ {A = ℕ} 0 1 = cc in omega arith

module _ (builder : Held) (rooms : Rooms) (before : Lists) (l : Lent rooms before) (r : Reply Held) (c : Shortens builder rooms before.borders before.lengths r) where
  pub drop_refused : (why : Refusal) → r ≡ refused why → Drops builder rooms before before (refused why)
  unfolding Shortens Answers
  drop_refused why e =
      let told : Shortens builder rooms before.borders before.lengths (refused why) = subst (Shortens builder rooms before.borders before.lengths) e c in
      record { answers = λ b h. (told.1 b before refl refl l h, refl); broken = λ f. (ap refused (told.0 f), refl) }

  module _ (held : Held) (is : r ≡ given held) where
    pub short_is : Shortened builder rooms before.borders before.lengths held
    unfolding Shortens
    short_is = subst (Shortens builder rooms before.borders before.lengths) is c

    abbrev Summed-of : Option Sums → List ℕ → ℕ → ℕ → Type 0
    Summed-of summed places from to =
        (yards : List Yard) (drawn : Drawn) → Stands yards drawn held.names held.yards before.boxes before.borders (take (to - from) (drop from before.lengths))
        (take (held.strings - held.front) (drop held.front before.texts)) → SumsUp yards drawn places summed

    module _ (summed' : Option Sums) {places : List ℕ} (from to : ℕ) (ef : from ≡ held.names + 1) (et : to ≡ from + held.names * held.yards) (sums : Summed-of summed' places from to) where
      told_sums : (b : Builder) (h : Holds b builder before) → summed' ≡ Some (left_sums b builder rooms before h held short_is)
      told_sums b h = (sums _ _ (left_stands b builder rooms before h held short_is from to ef et)).sums

      pub drop_broken : summed' ≡ None → (q : Reply Held) → q ≡ refused (plain 28) → Drops builder rooms before before q
      drop_broken none q e =
          record {
            answers = λ b h. absurd (never (sym none ∙ told_sums b h));
            broken = λ f. absurd (false≢true (sym f ∙ short_is.stands));
          }

      module _ (x : Sums) (given-sums : summed' ≡ Some x) (after : Lists) (cut : after ≡ cut_to (ends_of held) before) (next : Held)
          (numbers : next ≡ with_sums held x.table x.metadata x.greatest) where
        drop_holds : (b : Builder) (h : Holds b builder before) → Holds (summed (holding b.plan (take (length b.plan.yards - 1) b.plan.yards)) b.room) next after
        drop_holds b h = let t : Totals = totals b builder rooms before h held short_is in
            let both : ◌≡◌ {A = Option Sums} (Some x) (Some (left_sums b builder rooms before h held short_is)) = sym given-sums ∙ told_sums b h in
            let same : x ≡ left_sums b builder rooms before h held short_is = cc in
            let is : next ≡ with_sums held t.table t.metadata t.greatest = numbers ∙ ap (λ (y : Sums). with_sums held y.table y.metadata y.greatest) same in
            subst (λ (y : Held). Holds (summed (holding b.plan (take (length b.plan.yards - 1) b.plan.yards)) b.room) y after) (sym is)
            (subst (Holds (summed (holding b.plan (take (length b.plan.yards - 1) b.plan.yards)) b.room) (with_sums held t.table t.metadata t.greatest)) (sym cut)
            (left_holds b builder rooms before h held short_is))

        pub drop_done : Drops builder rooms before after (given next)
        unfolding Answers
        drop_done =
            record {
              answers = λ b h. (
                summed (holding b.plan (take (length b.plan.yards - 1) b.plan.yards)) b.room,
                (
                  left_given b builder rooms before h held short_is,
                  (
                    drop_holds b h,
                    subst (SameRooms before) (sym cut) (cut_rooms (ends_of held) before (left_inside builder rooms before.borders before.lengths held short_is before l)),
                  ),
                ),
              );
              broken = λ f. absurd (false≢true (sym f ∙ short_is.stands));
            }
