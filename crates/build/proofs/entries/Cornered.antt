-- The boxes of the yards, one after another. Assumes nothing.
use Rattle.numbers.proofs.Prelude.{ℕ, suc, ◌+◌, ◌-◌, ◌*◌, ◌≤◌, ◌<◌, ℤ, length, take, drop, get_or, set, length-append, length-set, sets, length-sets, List, [], ◌∷◌, ◌++◌, ◌≡◌, refl, sym, ap, ◌∙◌, arith}
use Rattle.builder.{proofs.Checking.{four_words, next_is, begins_inside, part_is}, specs.{Entries.{box_of}, Yards.{Text, part_of, part_end, next_part, yards_from}, declared.boxes.Bounds.{Bounds}}}
use Rattle.build.specs.Entries.Corners.{corners_of}

-- boxes look at neither pieces nor texts
pub corners_alone : (ns : List ℕ) (ys xs : List ℤ) (w w' : List ℕ) (t t' : List Text) → corners_of (yards_from ns ys xs w t) ≡ corners_of (yards_from ns ys xs w' t')
unfolding yards_from corners_of
corners_alone (a ∷ b ∷ p ∷ v ∷ rest) ys xs w w' t t' =
    ap (λ (l : List ℤ). (box_of (part_of a ys) (part_of b xs)).south ∷ (box_of (part_of a ys) (part_of b xs)).west ∷ (box_of (part_of a ys) (part_of b xs)).north ∷ (box_of (part_of a ys)
    (part_of b xs)).east ∷ l)
    (corners_alone rest (drop a ys) (drop b xs) (drop (5 * p) w) (drop (5 * p) w') (drop v t) (drop v t'))
corners_alone (a ∷ b ∷ p ∷ []) ys xs w w' t t' = refl
corners_alone (a ∷ b ∷ []) ys xs w w' t t' = refl
corners_alone (a ∷ []) ys xs w w' t t' = refl
corners_alone [] ys xs w w' t t' = refl

none_left : (ns : List ℕ) (ys xs : List ℤ) → length ns < 4 → corners_of (yards_from ns ys xs [] []) ≡ []
unfolding yards_from corners_of
none_left (a ∷ b ∷ p ∷ v ∷ rest) ys xs h = let few : suc (suc (suc (suc (length rest)))) < 4 = h in absurd (omega (arith, few))
none_left (a ∷ b ∷ p ∷ []) ys xs h = refl
none_left (a ∷ b ∷ []) ys xs h = refl
none_left (a ∷ []) ys xs h = refl
none_left [] ys xs h = refl

-- four numbers, one after another
pub four_set : (l : List ℤ) (at : ℕ) (a b c d a' b' c' d' : ℤ) → a ≡ a' → b ≡ b' → c ≡ c' → d ≡ d' → set (set (set (set l at a) (at + 1) b) (at + 2) c) (at + 3) d ≡ sets l at (a' ∷ b' ∷ c' ∷ d' ∷ [])
four_set l at a b c d a' b' c' d' ea eb ec ed = let one : at + 1 ≡ suc at = omega arith in let two : at + 2 ≡ suc (suc at) = omega arith in
    let three : at + 3 ≡ suc (suc (suc at)) = omega arith in rw (ea, eb, ec, ed, one, two, three) refl

pub one_inside : (l : List ℤ) (at : ℕ) (a : ℤ) → at + 4 ≤ length l → at + 1 < length (set l at a)
one_inside l at a h = omega (arith, h, length-set l at a)

pub two_inside : (l : List ℤ) (at : ℕ) (a b : ℤ) → at + 4 ≤ length l → at + 2 < length (set (set l at a) (at + 1) b)
two_inside l at a b h = omega (arith, h, length-set l at a, length-set (set l at a) (at + 1) b)

pub three_inside : (l : List ℤ) (at : ℕ) (a b c : ℤ) → at + 4 ≤ length l → at + 3 < length (set (set (set l at a) (at + 1) b) (at + 2) c)
three_inside l at a b c h = omega (arith, h, length-set l at a, length-set (set l at a) (at + 1) b, length-set (set (set l at a) (at + 1) b) (at + 2) c)

pub four_size : (l : List ℤ) (at : ℕ) (a b c d : ℤ) → length (set (set (set (set l at a) (at + 1) b) (at + 2) c) (at + 3) d) ≡ length l
four_size l at a b c d =
    length-set (set (set (set l at a) (at + 1) b) (at + 2) c) (at + 3) d ∙ (length-set (set (set l at a) (at + 1) b) (at + 2) c ∙ (length-set (set l at a) (at + 1) b ∙ length-set l at a))

-- the box of a part
pub part_box : (lats : List ℤ) (lat tall : ℕ) (lons : List ℤ) (lon wide e f : ℕ) → e ≡ part_end (length lats) lat tall → f ≡ part_end (length lons) lon wide
    → (r : Bounds) → r ≡ box_of (take (e - lat) (drop lat lats)) (take (f - lon) (drop lon lons)) → r ≡ box_of (part_of tall (drop lat lats)) (part_of wide (drop lon lons))
part_box lats lat tall lons lon wide e f is it r b =
    b ∙ (ap (λ (l : List ℤ). box_of l (take (f - lon) (drop lon lons))) (part_is lats lat tall e is) ∙ ap (box_of (part_of tall (drop lat lats))) (part_is lons lon wide f it))

abbrev corners_from : List ℕ → List ℤ → List ℤ → List ℤ
corners_from ns ys xs = corners_of (yards_from ns ys xs [] [])

-- the loop's invariant: what is left of the words, cut by so many, and how many yards came
pub record Boxing (yards : List ℕ) (lats lons before boxes : List ℤ) (lat lon : ℕ) (left : List ℕ) (by count : ℕ) : Type 0 where
  pub four : by ≡ 4
  pub index : 4 * count + length left ≡ length yards
  pub tall : lat ≤ length lats
  pub wide : lon ≤ length lons
  pub size_is : length boxes ≡ length before
  pub same : sets boxes (4 * count) (corners_from left (drop lat lats) (drop lon lons)) ≡ sets before 0 (corners_from yards lats lons)

pub box_starts : (yards : List ℕ) (lats lons before : List ℤ) (left : List ℕ) (by count : ℕ) → left ≡ yards → by ≡ 4 → count ≡ 0 → Boxing yards lats lons before before 0 0 left by count
box_starts yards lats lons before left by count e f none = let at : 4 * count ≡ 0 = omega (arith, none) in record {
  four = f;
  index = omega (arith, none, ap length e);
  tall = omega arith;
  wide = omega arith;
  size_is = refl;
  same = ap (λ (n : ℕ). sets before n (corners_from left lats lons)) at ∙ ap (λ (ns : List ℕ). sets before 0 (corners_from ns lats lons)) e;
}

module _ (yards : List ℕ) (lats lons before boxes : List ℤ) (lat lon : ℕ) (left : List ℕ) (by count : ℕ) (c : Boxing yards lats lons before boxes lat lon left by count) where
  module _ (yard rest : List ℕ) (cut : left ≡ yard ++ rest) (long : length yard ≡ by) where
    size : 4 + length rest ≡ length left
    size = omega (arith, ap length cut, length-append yard rest, long, c.four)

    pub box_room : length yards ≤ length before → 4 * count + 4 ≤ length boxes
    box_room h = omega (arith, size, c.index, h, c.size_is)

    abbrev here : Bounds
    here = box_of (part_of (get_or yard 0 0) (drop lat lats)) (part_of (get_or yard 1 0) (drop lon lons))

    step : corners_from left (drop lat lats) (drop lon lons) ≡ here.south ∷ here.west ∷ here.north ∷ here.east ∷ corners_from rest
        (drop (get_or yard 0 0) (drop lat lats)) (drop (get_or yard 1 0) (drop lon lons))
    unfolding yards_from corners_of
    step =
        ap (λ (ns : List ℕ). corners_from ns (drop lat lats) (drop lon lons)) (cut ∙ four_words yard rest (long ∙ c.four)) ∙ ap (λ (l : List ℤ). here.south ∷ here.west
        ∷ here.north ∷ here.east ∷ l) (corners_alone rest (drop (get_or yard 0 0) (drop lat lats)) (drop (get_or yard 1 0) (drop lon lons))
        (drop (5 * get_or yard 2 0) []) [] (drop (get_or yard 3 0) []) [])

    pub box_goes : (bounds : Bounds) → bounds ≡ here → (boxes' : List ℤ) → boxes' ≡ sets boxes (4 * count) (bounds.south ∷ bounds.west ∷ bounds.north ∷ bounds.east ∷ [])
        → (lat' lon' : ℕ) → lat' ≡ next_part (length lats) lat (get_or yard 0 0) → lon' ≡ next_part (length lons) lon (get_or yard 1 0) → (by' count' : ℕ) → by' ≡ by → count' ≡ count + 1
        → Boxing yards lats lons before boxes' lat' lon' rest by' count'
    box_goes bounds eb boxes' es lat' lon' el eo by' count' kept next =
        let ys : drop lat' lats ≡ drop (get_or yard 0 0) (drop lat lats) = next_is lats lat (get_or yard 0 0) lat' el in
        let xs : drop lon' lons ≡ drop (get_or yard 1 0) (drop lon lons) = next_is lons lon (get_or yard 1 0) lon' eo in
        let later : List ℤ = corners_from rest (drop (get_or yard 0 0) (drop lat lats)) (drop (get_or yard 1 0) (drop lon lons)) in
        let four : 4 * count' ≡ suc (suc (suc (suc (4 * count)))) = omega (arith, next) in
        let at : boxes' ≡ sets boxes (4 * count) (here.south ∷ here.west ∷ here.north ∷ here.east ∷ []) = es ∙ ap (λ (b : Bounds). sets boxes (4 * count) (b.south ∷ b.west ∷ b.north ∷ b.east ∷ [])) eb in
        record {
          four = kept ∙ c.four;
          index = omega (arith, next, size, c.index);
          tall = begins_inside (length lats) lat (get_or yard 0 0) c.tall lat' el;
          wide = begins_inside (length lons) lon (get_or yard 1 0) c.wide lon' eo;
          size_is = ap length at ∙ (length-sets boxes (4 * count) (here.south ∷ here.west ∷ here.north ∷ here.east ∷ []) ∙ c.size_is);
          same =
              ap (λ (l : List ℤ). sets boxes' (4 * count') (corners_from rest l (drop lon' lons))) ys
              ∙ (ap (λ (l : List ℤ). sets boxes' (4 * count') (corners_from rest (drop (get_or yard 0 0) (drop lat lats)) l)) xs
              ∙ (ap (λ (b : List ℤ). sets b (4 * count') later) at
              ∙ (ap (λ (n : ℕ). sets (sets boxes (4 * count) (here.south ∷ here.west ∷ here.north ∷ here.east ∷ [])) n later) four
              ∙ (sym (ap (sets boxes (4 * count)) step) ∙ c.same))));
        }

  pub box_ends : length left < by → boxes ≡ sets before 0 (corners_from yards lats lons)
  box_ends few = let short : length left < 4 = omega (arith, few, c.four) in
      sym (ap (sets boxes (4 * count)) (none_left left (drop lat lats) (drop lon lons) short)) ∙ c.same
