-- A builder that calls have made fits its lists, and its sums may be taken of them. Assumes nothing.
use Rattle.numbers.proofs.Prelude.{ℕ, ◌+◌, ◌-◌, ◌*◌, ◌^◌, ◌≤◌, le-leb, leb-true, eqb-true, eqb, leb, pos, length, take, drop, length-append, length-map, Bool, true, ◌&&◌, List, [], ◌∷◌, ◌++◌, map}
use Rattle.numbers.proofs.{Prelude.{◌≡◌, sym, ap, subst, ◌∙◌, mul-suc, arith}, Tests.{both}}
use mathlib.Core.List.{map-append}
use Rattle.builder.specs.{File.{is_text, readable}, Metadata.{fields_of}, Yards.{Text, Plan, Yard, sum_of}}
use Rattle.build.{proofs.{entries.Tabled.{corners_size}, metadata.Shared.{flat_more}, recording.Fewer.{joined_sum}}, specs.{Entries.Corners.{corners_of}, Metadata.Kept.{joined}}}
use Rattle.writer.specs.Writer.{every}
use Rattle.draft.proofs.held.{Fronts.{front_slice, front_take}, Redrawn.{data_few, data_many, data_some}, Roomy.{boxes_last, own_last}}
use Rattle.draft.specs.Held.{Builder.{Builder}, Sound.{Sound}, Space.{own_enough, standing}, State.{Front, Holds, Lies, Lists, Stands, front_of, texts_of, values_of}}
use Rattle.draft.specs.{Held.Totals.{Totals, data_of, totals_for, totals_of}, declared.held.{room.Rooms.{Rooms}, state.Held.{Held}}}

-- ---- how many numbers and texts there are
pub fields_many : (names : ℕ) (yards : List Yard) → every (λ y. eqb names (length y.values)) yards ≡ true → length (fields_of (map (λ y. y.values) yards)) ≡ names * length yards
unfolding every fields_of
fields_many names [] e = omega arith
fields_many names (y ∷ ys) e = let two = both (eqb names (length y.values)) (every (λ y. eqb names (length y.values)) ys) e in
    omega (arith, length-append y.values (fields_of (map (λ y. y.values) ys)), fields_many names ys two.1, eqb-true names (length y.values) two.0, mul-suc names (length ys))

-- ---- no text is long
pub text_short : (t : Text) → is_text t ≡ true → length t ≤ 255
unfolding is_text
text_short t e = leb-true (length t) 255 (both (leb (length t) 255) _ e).0

values_short : (values : List Text) → every is_text values ≡ true → sum_of (map length values) ≤ 255 * length values
unfolding every sum_of
values_short [] e = omega arith
values_short (t ∷ ts) e = let two = both (is_text t) (every is_text ts) e in omega (arith, text_short t two.0, values_short ts two.1)

pub fields_short : (yards : List Yard) → every (λ y. every is_text y.values) yards ≡ true →
    sum_of (map length (fields_of (map (λ y. y.values) yards))) ≤ 255 * length (fields_of (map (λ y. y.values) yards))
unfolding every fields_of sum_of
fields_short [] e = omega arith
fields_short (y ∷ ys) e = let two = both (every is_text y.values) (every (λ y. every is_text y.values) ys) e in
    let rest : List Text = fields_of (map (λ y. y.values) ys) in
    omega (
      arith,
      values_short y.values two.0,
      fields_short ys two.1,
      joined_sum y.values,
      joined_sum rest,
      joined_sum (y.values ++ rest),
      ap length (flat_more (λ (t : Text). t) y.values rest),
      length-append (joined y.values) (joined rest),
      length-append y.values rest,
    )

-- ---- what can be read
pub readable_parts : (plan : Plan) → readable plan ≡ true
    → (plan.whole ≡ true) × ((every is_text plan.names ≡ true) × ((is_text plan.notice ≡ true) × (every (λ y. every is_text y.values) plan.yards ≡ true)))
unfolding readable
readable_parts plan e = let values : Bool = every (λ y. every is_text y.values) plan.yards in
    let one = both plan.whole (every is_text plan.names && (is_text plan.notice && values)) e in
    let two = both (every is_text plan.names) (is_text plan.notice && values) one.1 in (one.0, (two.0, both (is_text plan.notice) values two.1))

-- ---- of a sound plan
module _ (plan : Plan) (room : ℕ) (sound : Sound plan room) where
  pub values_many : length (values_of plan) ≡ length plan.names * length plan.yards
  values_many = fields_many (length plan.names) plan.yards sound.valued

  pub names_few : length plan.names ≤ 255
  names_few = leb-true (length plan.names) 255 sound.named

  pub front_many : length (front_of plan) ≡ length plan.names + 1
  front_many = length-append plan.names (plan.notice ∷ [])

  pub texts_many : length (map length (texts_of plan)) ≡ length plan.names + 1 + length plan.names * length plan.yards
  texts_many = omega (arith, length-map (texts_of plan) length, length-append (front_of plan) (values_of plan), front_many, values_many)

  -- the bytes of names and notice come first
  pub texts_split : joined (texts_of plan) ≡ joined (front_of plan) ++ joined (values_of plan)
  texts_split = flat_more (λ (t : Text). t) (front_of plan) (values_of plan)

  pub lengths_split : map length (texts_of plan) ≡ map length (front_of plan) ++ map length (values_of plan)
  lengths_split = map-append length (front_of plan) (values_of plan)

  -- ---- in lists that hold it
  module _ (lists : Lists) (lies : Lies plan (data_of plan) lists) where
    pub borders_room : length plan.yards ≤ length lists.borders
    borders_room = omega (arith, lies.borders_are.room, data_many plan room sound)

    pub lengths_room : length plan.names + 1 + length plan.names * length plan.yards ≤ length lists.lengths
    lengths_room = omega (arith, lies.lengths_are.room, texts_many)

    pub boxes_room : 4 * length plan.yards ≤ length lists.boxes
    boxes_room = omega (arith, lies.boxes_are.room, corners_size plan.yards)

    -- the sums may be taken of what is lent: `lengths[from..to]` and `texts[front..strings]`, of the values alone
    pub stands_more : (names count from to front strings : ℕ) → names ≡ length plan.names → count ≡ length plan.yards → from ≡ names + 1 → to ≡ names + 1 + names * count
        → front ≡ length (joined (front_of plan)) → strings ≡ length (joined (texts_of plan))
        → Stands plan.yards (data_of plan) names count lists.boxes lists.borders (take (to - from) (drop from lists.lengths)) (take (strings - front) (drop front lists.texts))
    stands_more names count from to front strings en ec ef et efront estrings =
        let fields : List Text = values_of plan in
        let lengths_front : Front 0 (map length (front_of plan) ++ map length fields) lists.lengths = subst (λ (l : List ℕ). Front 0 l lists.lengths) lengths_split lies.lengths_are in
        let texts_front : Front 0 (joined (front_of plan) ++ joined fields) lists.texts = subst (λ (l : List ℕ). Front 0 l lists.texts) texts_split lies.texts_are in
        let boxes_many : 4 * count ≡ length (corners_of plan.yards) = omega (arith, ec, corners_size plan.yards) in
        let places_many : count ≡ length (data_of plan).places = ec ∙ sym (data_many plan room sound) in
        let size : length (map length (front_of plan)) ≡ length plan.names + 1 = length-map (front_of plan) length ∙ front_many in
        let times : names * count ≡ length plan.names * length plan.yards = ap (λ (n : ℕ). n * count) en ∙ ap (λ (n : ℕ). length plan.names * n) ec in
        let lengths_lie : take (to - from) (drop from lists.lengths) ≡ map length fields =
        front_slice 0 (map length (front_of plan)) (map length fields) lengths_front from to (omega (arith, ef, en, size)) (omega (arith, et, en, times, texts_many, ap length lengths_split)) in
        record {
          many = ec;
          few = omega (arith, ec, sound.few);
          valued = ap (λ (n : ℕ). every (λ y. eqb n (length y.values)) plan.yards) en ∙ sound.valued;
          drawn_many = data_many plan room sound;
          boxes_are = ap (λ (n : ℕ). take n lists.boxes) boxes_many ∙ front_take (pos 0) lies.boxes_are;
          borders_are = ap (λ (n : ℕ). take n lists.borders) places_many ∙ front_take 0 lies.borders_are;
          lengths_are = lengths_lie;
          texts_are = front_slice 0 (joined (front_of plan)) (joined fields) texts_front front strings efront (estrings ∙ ap length texts_split);
          short = omega (arith, ap sum_of lengths_lie, ap length lengths_lie, length-map fields length, fields_short plan.yards (readable_parts plan sound.texts).1.1.1);
        }

-- ---- of a builder that calls have made
module _ (b : Builder) (held : Held) (lists : Lists) (h : Holds b held lists) where
  totals_are : b.totals ≡ totals_for b.plan.yards (data_of b.plan)
  unfolding totals_of
  totals_are = h.fresh

  pub held_names : held.names ≡ length b.plan.names
  held_names = ap (λ (x : Held). x.names) h.is

  pub held_yards : held.yards ≡ length b.plan.yards
  unfolding totals_for
  held_yards = ap (λ (x : Held). x.yards) h.is ∙ ap (λ (t : Totals). t.yards) totals_are

  pub held_bytes : held.bytes ≡ length (data_of b.plan).bytes
  unfolding totals_for
  held_bytes = ap (λ (x : Held). x.bytes) h.is ∙ ap (λ (t : Totals). t.bytes) totals_are

  pub held_front : held.front ≡ length (joined (front_of b.plan))
  held_front = ap (λ (x : Held). x.front) h.is

  pub held_strings : held.strings ≡ length (joined (texts_of b.plan))
  held_strings = ap (λ (x : Held). x.strings) h.is

  pub few_names : held.names ≤ 255
  few_names = omega (arith, held_names, names_few b.plan b.room h.sound)

  pub few_yards : held.yards ≤ 4096
  few_yards = omega (arith, held_yards, h.sound.few)

  pub front_first : held.front ≤ held.strings
  front_first = omega (arith, held_front, held_strings, ap length (texts_split b.plan b.room h.sound), length-append (joined (front_of b.plan)) (joined (values_of b.plan)))

  pub few_bytes : held.bytes ≤ 2 ^ 30
  few_bytes = omega (arith, held_bytes, data_few b.plan b.room h.sound)

  pub some_bytes : 1 ≤ held.bytes
  some_bytes = omega (arith, held_bytes, data_some b.plan b.room h.sound)

  pub bytes_inside : held.bytes ≤ length lists.bytes
  bytes_inside = omega (arith, held_bytes, h.lies.bytes_are.room)

  pub strings_inside : held.strings ≤ length lists.texts
  strings_inside = omega (arith, held_strings, h.lies.texts_are.room)

  -- a builder that calls have made is not refused for its numbers
  pub holds_standing : (rooms : Rooms) → rooms.boxes ≡ length lists.boxes → rooms.borders ≡ length lists.borders → rooms.lengths ≡ length lists.lengths
      → rooms.texts ≡ length lists.texts → rooms.bytes ≡ length lists.bytes → standing held rooms ≡ true
  holds_standing r boxes borders lengths texts bytes =
      let plan : Plan = b.plan in
      let times : held.names * held.yards ≡ length plan.names * length plan.yards = ap (λ (n : ℕ). n * held.yards) held_names ∙ ap (λ (n : ℕ). length plan.names * n) held_yards in
      let own : true ≡ own_enough r held.names held.yards held.strings =
      boxes_last r held.names held.yards held.strings
      (omega (arith, held_yards, borders, borders_room plan b.room h.sound lists h.lies))
      (omega (arith, held_names, times, lengths, lengths_room plan b.room h.sound lists h.lies))
      (omega (arith, texts, strings_inside)) true
      (sym (le-leb (4 * held.yards) r.boxes (omega (arith, held_yards, boxes, boxes_room plan b.room h.sound lists h.lies)))) in
      sym (own_last held r few_names few_yards front_first some_bytes few_bytes (omega (arith, bytes, bytes_inside)) true own)

  pub holds_stands : (from to : ℕ) → from ≡ held.names + 1 → to ≡ held.names + 1 + held.names * held.yards → Stands b.plan.yards (data_of b.plan)
      held.names held.yards lists.boxes lists.borders (take (to - from) (drop from lists.lengths)) (take (held.strings - held.front) (drop held.front lists.texts))
  holds_stands from to ef et =
      stands_more b.plan b.room h.sound lists h.lies held.names held.yards from to held.front held.strings held_names held_yards ef et held_front held_strings
