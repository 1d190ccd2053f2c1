-- Where a value of a builder that calls have made lies in its lists. Assumes nothing.
use Rattle.numbers.proofs.Prelude.{ℕ, zero, suc, ◌+◌, ◌-◌, ◌*◌, ◌^◌, ◌≤◌, ◌<◌, le-leb, length, take, get_or, replicate, length-append, length-map, List·getD-append, take-append-le, Bool, true, ◌&&◌}
use Rattle.numbers.proofs.{Prelude.{List, [], ◌∷◌, ◌++◌, map, flat_map, ◌≡◌, refl, sym, ap, ◌∙◌, arith}, Tests.{both}}
use lib.Seq.{take-append-add}
use Rattle.builder.{proofs.Counting.{lengths_room}, specs.{File.{is_text}, Metadata.{fields_of}, Yards.{Text, Plan, Yard, sum_of}}}
use Rattle.draft.proofs.held.Standing.{readable_parts, texts_many, front_many, names_few, held_names, held_front, held_strings, text_short}
use Rattle.draft.{proofs.held.Texts.{text_index, index_inside, before_text, behind_text, strings_around, replaced_strings, changed}, specs.Held.{Builder.{Builder}, Sound.{Sound}}}
use Rattle.draft.specs.{Held.State.{Front, Holds, Lists, front_of, texts_of, values_of}, declared.held.state.Held.{Held}}
use Rattle.build.{proofs.{metadata.{Itemed.{map_take}, Shared.{flat_more}, Worded.{at_map}}, recording.Fewer.{joined_sum}}, specs.Metadata.Kept.{joined}}
use Rattle.writer.specs.Writer.{every}
use Rattle.edit.proofs.replacing.Spots.{short_last}
use Rattle.edit.specs.{declared.replacing.check.Spot.{Spot}, inner.Replacing.Spot.{text_at, spot_in, within, size_with}}

-- ---- what is read of the front of a list
front_takes : (front list : List ℕ) → Front 0 front list → (n : ℕ) → n ≤ length front → take n list ≡ take n front
front_takes front list f n h = ap (take n) f.is ∙ take-append-le n front (replicate (length list - length front) 0) h

front_reads : (front list : List ℕ) → Front 0 front list → (i : ℕ) → i < length front → get_or list i 0 ≡ get_or front i 0
front_reads front list f i h = ap (λ (l : List ℕ). get_or l i 0) f.is ∙ List·getD-append front (replicate (length list - length front) 0) 0 i h

-- ---- every text of a sound plan is one
every_join : {A : Type 0} (good : A → Bool) (xs ys : List A) → every good xs ≡ true → every good ys ≡ true → every good (xs ++ ys) ≡ true
unfolding every
every_join good [] ys a b = b
every_join good (x ∷ xs) ys a b = let two = both (good x) (every good xs) a in
    ap (λ (t : Bool). t && every good (xs ++ ys)) two.0 ∙ every_join good xs ys two.1 b

every_value : (yards : List Yard) → every (λ y. every is_text y.values) yards ≡ true → every is_text (fields_of (map (λ (y : Yard). y.values) yards)) ≡ true
unfolding every fields_of
every_value [] e = refl
every_value (y ∷ ys) e = let two = both (every is_text y.values) (every (λ y. every is_text y.values) ys) e in
    every_join is_text y.values (fields_of (map (λ (y : Yard). y.values) ys)) two.0 (every_value ys two.1)

every_at : (ts : List Text) → every is_text ts ≡ true → (i : ℕ) → i < length ts → is_text (get_or ts i []) ≡ true
unfolding every
every_at [] e i h = absurd (omega arith)
every_at (t ∷ ts) e zero h = (both (is_text t) (every is_text ts) e).0
every_at (t ∷ ts) e (suc i) h = every_at ts (both (is_text t) (every is_text ts) e).1 i (omega arith)

every_short : (ts : List Text) → every is_text ts ≡ true → length (joined ts) ≤ 255 * length ts
unfolding every flat_map
every_short [] e = omega arith
every_short (t ∷ ts) e = let two = both (is_text t) (every is_text ts) e in
    omega (arith, length-append t (joined ts), text_short t two.0, every_short ts two.1)

module _ (plan : Plan) (room : ℕ) (sound : Sound plan room) where
  texts_all : every is_text (texts_of plan) ≡ true
  unfolding every
  texts_all = let parts = readable_parts plan sound.texts in
      every_join is_text (front_of plan) (values_of plan) (every_join is_text plan.names (plan.notice ∷ []) parts.1.0 (ap (λ (b : Bool). b && true) parts.1.1.0))
      (every_value plan.yards parts.1.1.1)

  texts_size : length (texts_of plan) ≡ length plan.names + 1 + length plan.names * length plan.yards
  texts_size = sym (length-map (texts_of plan) length) ∙ texts_many plan room sound

  pub texts_short : length (joined (texts_of plan)) ≤ 2 ^ 40
  texts_short =
      omega (arith, every_short (texts_of plan) texts_all, texts_size, names_few plan room sound, lengths_room (length plan.names) (length plan.yards) (names_few plan room sound) sound.few)

-- ---- a value
module _ (b : Builder) (held : Held) (lists : Lists) (h : Holds b held lists) (yard field : ℕ) (text : Text) (y : yard < length b.plan.yards) (f : field < length b.plan.names) where
  abbrev plan : Plan
  plan = b.plan

  abbrev pub index : ℕ
  index = text_index plan b.room h.sound yard field text y f

  abbrev pub before : List ℕ
  before = before_text plan b.room h.sound yard field text y f

  abbrev pub old : List ℕ
  old = get_or (texts_of plan) index []

  abbrev pub behind : List ℕ
  behind = behind_text plan b.room h.sound yard field text y f

  abbrev pub spot : Spot
  spot = spot_in (text_at held.names yard field) lists.lengths

  pub index_is : text_at held.names yard field ≡ index
  index_is = ap (λ (n : ℕ). n + 1 + (yard * n + field)) (held_names b held lists h)

  inside : index < length (texts_of plan)
  inside = index_inside plan b.room h.sound yard field text y f

  pub index_in : index < length (map length (texts_of plan))
  index_in = omega (arith, inside, length-map (texts_of plan) length)

  pub place_is : spot.place ≡ length before
  place_is =
      ap (λ (i : ℕ). sum_of (take i lists.lengths)) index_is ∙ (ap sum_of (front_takes (map length (texts_of plan)) lists.lengths h.lies.lengths_are
      index (omega (arith, index_in)) ∙ sym (map_take length index (texts_of plan))) ∙ sym (joined_sum (take index (texts_of plan))))

  pub old_is : get_or lists.lengths (text_at held.names yard field) 0 ≡ length old
  old_is =
      ap (λ (i : ℕ). get_or lists.lengths i 0) index_is
      ∙ (front_reads (map length (texts_of plan)) lists.lengths h.lies.lengths_are index index_in ∙ at_map length (texts_of plan) index [] inside)

  pub from_is : spot.from ≡ length before + length old
  from_is = ap (λ (n : ℕ). n + get_or lists.lengths (text_at held.names yard field) 0) place_is ∙ ap (λ (n : ℕ). length before + n) old_is

  pub strings_is : held.strings ≡ length before + length old + length behind
  strings_is =
      held_strings b held lists h ∙ (ap length (strings_around plan b.room h.sound yard field text y f) ∙ omega (arith, length-append before (old ++ behind), length-append old behind))

  pub strings_new : length (joined (texts_of (changed plan b.room h.sound yard field text y f))) ≡ length before + length text + length behind
  strings_new =
      ap length (replaced_strings plan b.room h.sound yard field text y f) ∙ omega (arith, length-append before (text ++ behind), length-append text behind)

  -- the names and the notice lie before it
  front_before : length (joined (front_of plan)) ≤ length before
  front_before = let k : ℕ = yard * length plan.names + field in
      let i : index ≡ length (front_of plan) + k = ap (λ (n : ℕ). n + k) (sym (front_many plan b.room h.sound)) in
      let is : before ≡ joined (front_of plan) ++ joined (take k (values_of plan)) = ap (λ (n : ℕ). joined (take n (texts_of plan))) i
      ∙ (ap joined (take-append-add (front_of plan) (values_of plan) k) ∙ flat_more (λ (t : Text). t) (front_of plan) (take k (values_of plan))) in
      omega (arith, ap length is, length-append (joined (front_of plan)) (joined (take k (values_of plan))))

  pub old_few : length old ≤ 255
  old_few = text_short old (every_at (texts_of plan) (texts_all plan b.room h.sound) index inside)

  pub value_within : within held spot ≡ true
  value_within =
      sym (short_last held spot (omega (arith, held_front b held lists h, place_is, front_before)) (omega (arith, from_is, strings_is)) (omega (arith, from_is, place_is, old_few)) true
      (sym (le-leb held.strings (2 ^ 40) (omega (arith, held_strings b held lists h, texts_short plan b.room h.sound)))))

  pub size_new : size_with held spot (length text) ≡ length (joined (texts_of (changed plan b.room h.sound yard field text y f)))
  size_new = omega (arith, strings_is, strings_new, from_is, place_is)
