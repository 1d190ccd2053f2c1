-- What each call leaves of the boxes and the texts of a plan: longer, cut, changed at an index, or none. Assumes nothing.
use Rattle.numbers.proofs.Prelude.{ℕ, zero, suc, ◌+◌, ◌*◌, ◌≤◌, ◌<◌, leb-true, eqb-true, eqb, leb, ℤ, length, take, drop, get_or, set, length-append, take-append-drop, take-add, true, List, [], ◌∷◌}
use Rattle.numbers.proofs.{Prelude.{◌++◌, map, append_assoc, append-nil, flat_map, ◌≡◌, refl, sym, ap, ◌∙◌, mul_comm, suc-mul, arith}, Tests.{both}}
use lib.Seq.{set-append_left, set_split, split_at}
use Rattle.builder.{proofs.grouping.Walks.{item_among}, specs.{Entries.{box_of}, File.{are_texts, head_of, is_text}, Metadata.{fields_of}, Yards.{Text, Plan, Yard, cut_by, sum_of}}}
use Rattle.build.{proofs.metadata.{Itemed.{cut_lengths}, Shared.{fields_more, flat_more, map_more}}, specs.Entries.Corners.{corners_of}}
use Rattle.writer.specs.Writer.{every}
use Rattle.draft.proofs.held.{Everyone.{changed_set}, Standing.{fields_many}}
use Rattle.draft.specs.Held.{Builder.{Offered, holding, joined, yard_of, changed_at, with_value}, Sound.{Sound}, State.{front_of, texts_of, values_of}}
use Rattle.build.specs.Metadata.Kept as Words

-- ---- lists
set_append_right : {A : Type 0} (xs ys : List A) (i : ℕ) (x : A) → set (xs ++ ys) (length xs + i) x ≡ xs ++ set ys i x
set_append_right [] ys i x = let e : 0 + i ≡ i = omega arith in ap (λ (n : ℕ). set ys n x) e
set_append_right {A} (y ∷ xs) ys i x = let e : suc (length xs) + i ≡ suc (length xs + i) = omega arith in
    ap (λ (n : ℕ). set (y ∷ (xs ++ ys)) n x) e ∙ ap (λ (l : List A). y ∷ l) (set_append_right xs ys i x)

pub map_set : {A B : Type 0} (f : A → B) (xs : List A) (i : ℕ) (x : A) → map f (set xs i x) ≡ set (map f xs) i (f x)
map_set f [] i x = refl
map_set f (y ∷ ys) zero x = refl
map_set {B = B} f (y ∷ ys) (suc i) x = ap (λ (l : List B). f y ∷ l) (map_set f ys i x)

-- texts that were cut from a list are that list, up to their lengths
pub joined_cut : (lengths texts : List ℕ) → Words.joined (cut_by lengths texts) ≡ take (sum_of lengths) texts
unfolding cut_by sum_of flat_map
joined_cut [] texts = refl
joined_cut (n ∷ ns) texts = ap (λ (l : List ℕ). take n texts ++ l) (joined_cut ns (drop n texts)) ∙ sym (take-add n (sum_of ns) texts)

-- ---- the boxes of some yards and others
pub corners_more : (xs ys : List Yard) → corners_of (xs ++ ys) ≡ corners_of xs ++ corners_of ys
unfolding corners_of
corners_more [] ys = refl
corners_more (x ∷ xs) ys = let box = box_of x.lats x.lons in ap (λ (l : List ℤ). box.south ∷ box.west ∷ box.north ∷ box.east ∷ l) (corners_more xs ys)

pub corners_split : (n : ℕ) (ys : List Yard) → corners_of ys ≡ corners_of (take n ys) ++ corners_of (drop n ys)
corners_split n ys = ap corners_of (sym (take-append-drop n ys)) ∙ corners_more (take n ys) (drop n ys)

pub corners_one : (y : Yard) → corners_of (y ∷ []) ≡ (box_of y.lats y.lons).south ∷ (box_of y.lats y.lons).west ∷ (box_of y.lats y.lons).north ∷ (box_of y.lats y.lons).east ∷ []
unfolding corners_of
corners_one y = refl

-- a value is no part of a box
pub corners_changed : (field : ℕ) (text : Text) (n : ℕ) (ys : List Yard) → corners_of (changed_at n (with_value field text) ys) ≡ corners_of ys
unfolding corners_of changed_at
corners_changed field text n [] = refl
corners_changed field text zero (y ∷ ys) = refl
corners_changed field text (suc n) (y ∷ ys) = let box = box_of y.lats y.lons in
    ap (λ (l : List ℤ). box.south ∷ box.west ∷ box.north ∷ box.east ∷ l) (corners_changed field text n ys)

-- ---- their values
abbrev pub values_in : List Yard → List Text
values_in ys = fields_of (map (λ y. y.values) ys)

values_more : (xs ys : List Yard) → values_in (xs ++ ys) ≡ values_in xs ++ values_in ys
values_more xs ys = ap fields_of (map_more (λ (y : Yard). y.values) xs ys) ∙ fields_more (map (λ y. y.values) xs) (map (λ y. y.values) ys)

values_one : (y : Yard) → values_in (y ∷ []) ≡ y.values
unfolding fields_of
values_one y = append-nil y.values

values_changed : (names field : ℕ) (text : Text) → field < names → (n : ℕ) (ys : List Yard) → every (λ y. eqb names (length y.values)) ys ≡ true → n < length ys
    → values_in (changed_at n (with_value field text) ys) ≡ set (values_in ys) (n * names + field) text
unfolding every fields_of changed_at
values_changed names field text f n [] e h = absurd (omega arith)
values_changed names field text f zero (y ∷ ys) e h = let two = both (eqb names (length y.values)) (every (λ y. eqb names (length y.values)) ys) e in
    let i : field ≡ 0 * names + field = omega arith in
    ap (λ (l : List Text). l ++ values_in ys) (changed_set text field y.values) ∙ (sym (set-append_left y.values (values_in ys) field text
    (omega (arith, f, eqb-true names (length y.values) two.0))) ∙ ap (λ (n : ℕ). set (y.values ++ values_in ys) n text) i)
values_changed names field text f (suc n) (y ∷ ys) e h = let two = both (eqb names (length y.values)) (every (λ y. eqb names (length y.values)) ys) e in
    let i : length y.values + (n * names + field) ≡ suc n * names + field = omega (arith, eqb-true names (length y.values) two.0, suc-mul n names) in
    ap (λ (l : List Text). y.values ++ l) (values_changed names field text f n ys two.1 (omega arith))
    ∙ (sym (set_append_right y.values (values_in ys) (n * names + field) text) ∙ ap (λ (n : ℕ). set (y.values ++ values_in ys) n text) i)

-- ---- one yard more
module _ (plan : Plan) (o : Offered) where
  pub joined_corners : corners_of (joined plan o).yards ≡ corners_of plan.yards ++ corners_of (yard_of o ∷ [])
  unfolding joined
  joined_corners = corners_more plan.yards (yard_of o ∷ [])

  pub joined_front : front_of (joined plan o) ≡ front_of plan
  unfolding joined
  joined_front = refl

  pub joined_head : head_of (joined plan o) ≡ head_of plan
  unfolding joined head_of
  joined_head = refl

  pub joined_yards : length (joined plan o).yards ≡ length plan.yards + 1
  unfolding joined
  joined_yards = length-append plan.yards (yard_of o ∷ [])

  pub joined_values : values_of (joined plan o) ≡ values_of plan ++ cut_by o.lengths o.texts
  unfolding joined
  joined_values = values_more plan.yards (yard_of o ∷ []) ∙ ap (λ (l : List Text). values_of plan ++ l) (values_one (yard_of o))

  pub joined_texts : texts_of (joined plan o) ≡ texts_of plan ++ cut_by o.lengths o.texts
  unfolding joined
  joined_texts = ap (λ (l : List Text). front_of plan ++ l) joined_values ∙ sym (append_assoc (front_of plan) (values_of plan) (cut_by o.lengths o.texts))

  whole_texts : are_texts o.lengths o.texts ≡ true → sum_of o.lengths ≤ length o.texts
  unfolding are_texts
  whole_texts e = leb-true (sum_of o.lengths) (length o.texts) (both (leb (sum_of o.lengths) (length o.texts)) (every is_text (cut_by o.lengths o.texts)) e).0

  pub joined_lengths : are_texts o.lengths o.texts ≡ true → map length (texts_of (joined plan o)) ≡ map length (texts_of plan) ++ o.lengths
  joined_lengths e =
      ap (map length) joined_texts ∙
      (map_more length (texts_of plan) (cut_by o.lengths o.texts) ∙ ap (λ (l : List ℕ). map length (texts_of plan) ++ l) (cut_lengths o.lengths o.texts (whole_texts e)))

  pub joined_strings : Words.joined (texts_of (joined plan o)) ≡ Words.joined (texts_of plan) ++ take (sum_of o.lengths) o.texts
  joined_strings =
      ap Words.joined joined_texts ∙
      (flat_more (λ (t : Text). t) (texts_of plan) (cut_by o.lengths o.texts) ∙ ap (λ (l : List ℕ). Words.joined (texts_of plan) ++ l) (joined_cut o.lengths o.texts))

-- ---- the first so many yards: what there was is theirs and then the rest's
module _ (plan : Plan) (n : ℕ) where
  abbrev fewer : Plan
  fewer = holding plan (take n plan.yards)

  abbrev pub rest_values : List Text
  rest_values = values_in (drop n plan.yards)

  pub dropped_values : values_of plan ≡ values_of fewer ++ rest_values
  dropped_values = ap values_in (sym (take-append-drop n plan.yards)) ∙ values_more (take n plan.yards) (drop n plan.yards)

  pub dropped_texts : texts_of plan ≡ texts_of fewer ++ rest_values
  dropped_texts = ap (λ (l : List Text). front_of plan ++ l) dropped_values ∙ sym (append_assoc (front_of plan) (values_of fewer) rest_values)

  pub dropped_lengths : map length (texts_of plan) ≡ map length (texts_of fewer) ++ map length rest_values
  dropped_lengths = ap (map length) dropped_texts ∙ map_more length (texts_of fewer) rest_values

  pub dropped_strings : Words.joined (texts_of plan) ≡ Words.joined (texts_of fewer) ++ Words.joined rest_values
  dropped_strings = ap Words.joined dropped_texts ∙ flat_more (λ (t : Text). t) (texts_of fewer) rest_values

-- ---- none: the names and the notice are left
module _ (plan : Plan) where
  pub cleared_texts : texts_of (holding plan []) ≡ front_of plan
  unfolding fields_of
  cleared_texts = append-nil (front_of plan)

-- ---- one value another
module _ (plan : Plan) (room : ℕ) (sound : Sound plan room) (yard field : ℕ) (text : Text) (y : yard < length plan.yards) (f : field < length plan.names) where
  abbrev pub changed : Plan
  changed = holding plan (changed_at yard (with_value field text) plan.yards)

  -- which of all texts it is
  abbrev pub text_index : ℕ
  text_index = length plan.names + 1 + (yard * length plan.names + field)

  pub index_inside : text_index < length (texts_of plan)
  index_inside = let n : ℕ = length plan.names in
      omega (
        arith,
        f,
        item_among yard (length plan.yards) n y,
        mul_comm (length plan.yards) n,
        length-append (front_of plan) (values_of plan),
        length-append plan.names (plan.notice ∷ []),
        fields_many n plan.yards sound.valued,
      )

  pub replaced_values : values_of changed ≡ set (values_of plan) (yard * length plan.names + field) text
  replaced_values = values_changed (length plan.names) field text f yard plan.yards sound.valued y

  pub replaced_texts : texts_of changed ≡ set (texts_of plan) text_index text
  replaced_texts =
      let i : length (front_of plan) + (yard * length plan.names + field) ≡ text_index = ap (λ (n : ℕ). n + (yard * length plan.names + field))
      (length-append plan.names (plan.notice ∷ [])) in
      ap (λ (l : List Text). front_of plan ++ l) replaced_values
      ∙ (sym (set_append_right (front_of plan) (values_of plan) (yard * length plan.names + field) text) ∙ ap (λ (n : ℕ). set (texts_of plan) n text) i)

  pub replaced_lengths : map length (texts_of changed) ≡ set (map length (texts_of plan)) text_index (length text)
  replaced_lengths = ap (map length) replaced_texts ∙ map_set length (texts_of plan) text_index text

  -- the bytes before it, its own and those behind it
  abbrev pub before_text : List ℕ
  before_text = Words.joined (take text_index (texts_of plan))

  abbrev pub behind_text : List ℕ
  behind_text = Words.joined (drop (suc text_index) (texts_of plan))

  around : (t : Text) → Words.joined (take text_index (texts_of plan) ++ t ∷ drop (suc text_index) (texts_of plan)) ≡ before_text ++ (t ++ behind_text)
  unfolding flat_map
  around t = flat_more (λ (t : Text). t) (take text_index (texts_of plan)) (t ∷ drop (suc text_index) (texts_of plan))

  pub replaced_strings : Words.joined (texts_of changed) ≡ before_text ++ (text ++ behind_text)
  replaced_strings = ap Words.joined (replaced_texts ∙ set_split (texts_of plan) text_index text index_inside) ∙ around text

  pub strings_around : Words.joined (texts_of plan) ≡ before_text ++ (get_or (texts_of plan) text_index [] ++ behind_text)
  strings_around = ap Words.joined (split_at (texts_of plan) text_index [] index_inside) ∙ around (get_or (texts_of plan) text_index [])
