-- What is written over the lists that stand while a file is built is the definition's table. Assumes nothing.
use Rattle.numbers.proofs.Prelude.{ℕ, suc, ◌+◌, ◌*◌, ◌%◌, ◌^◌, ◌≤◌, ◌<◌, ℤ, pos, length, drop, get_or, set, length-map, sets, drop-drop, get_or-drop, sets-eq, get_or-set_other, List, [], ◌∷◌}
use Rattle.numbers.proofs.Prelude.{◌++◌, map}
use Rattle.numbers.{proofs.{Prelude.{zip_with, ◌≡◌, refl, sym, ap, ◌∙◌, arith}, Replies.{given_from}}, specs.Reply.{given}}
use Rattle.builder.proofs.Ordered.{table_is}
use Rattle.builder.specs.{Borders.{Drawn, with_border, drawn_from}, Entries.{Entry, box_of, bounds_at, places_at, entry_at, entry_of_word, word_of_yard, table_from, table_of}}
use Rattle.builder.specs.{File.{entry_of}, Grouping.{Items.{starts_from, item_at}, Keys.{numbers_from}}, Metadata.{records_of, start_of}, Sharing.{same_texts, firsts}, Yards.{Text, Yard, yards_from}}
use Rattle.builder.specs.{declared.boxes.Bounds.{Bounds}, inner.Drawing.Section.{spread}}
use Rattle.layout.specs.Order.{key_of, sorted_by}
use Rattle.build.proofs.{entries.Cornered.{corners_alone}, metadata.Begun.{spread_at}, recording.Spreading.{spread_size}}
use Rattle.build.specs.{Entries.Corners.{corners_of, InOrder}, Metadata.Kept.{values_to, begin_of}}

-- ---- places at every second word leave those between them
pub spread_odd : (i : ℕ) (ns list : List ℕ) (j : ℕ) → get_or (spread (2 * i) ns list) (2 * j + 1) 0 ≡ get_or list (2 * j + 1) 0
unfolding spread
spread_odd i [] list j = refl
spread_odd i (n ∷ ns) list j = let next : 2 * i + 2 ≡ 2 * suc i = omega arith in
    ap (λ (k : ℕ). get_or (spread k ns (set list (2 * i) n)) (2 * j + 1) 0) next ∙ (spread_odd (suc i) ns (set list (2 * i) n) j
    ∙ get_or-set_other list (2 * i) (2 * j + 1) n 0 (λ e. omega (arith, e)))

-- ---- the entries of the yards, one after another
pub corners_size : (yards : List Yard) → length (corners_of yards) ≡ 4 * length yards
unfolding corners_of
corners_size [] = refl
corners_size (y ∷ ys) = let e : 4 * suc (length ys) ≡ suc (suc (suc (suc (4 * length ys)))) = omega arith in ap (λ (n : ℕ). suc (suc (suc (suc n)))) (corners_size ys) ∙ sym e

-- the number at a place, of a list that goes on so from there
at_place : (boxes l : List ℤ) (at k : ℕ) → drop at boxes ≡ l → get_or boxes (at + k) (pos 0) ≡ get_or l k (pos 0)
at_place boxes l at k e = sym (get_or-drop at boxes k (pos 0)) ∙ ap (λ (r : List ℤ). get_or r k (pos 0)) e

module _ (all : List Yard) (boxes : List ℤ) (places : List ℕ) where
  abbrev begin_of_yard : Yard → ℕ
  begin_of_yard yard = start_of (records_of all) yard.values

  -- the yards from this one on, their boxes and places
  record Lies (i : ℕ) (yards : List Yard) (drawn : List ℕ) : Type 0 where
    few : i + length yards ≤ 4096
    size : length drawn ≡ length yards
    rest : List ℤ
    boxed : drop (4 * i) boxes ≡ corners_of yards ++ rest
    begins : (j : ℕ) → j < length yards → get_or places (2 * (i + j)) 0 ≡ get_or (map begin_of_yard yards) j 0
    borders : (j : ℕ) → j < length yards → get_or places (2 * (i + j) + 1) 0 ≡ get_or drawn j 0

  module _ (i : ℕ) (y : Yard) (ys : List Yard) (d : ℕ) (ds : List ℕ) (l : Lies i (y ∷ ys) (d ∷ ds)) where
    abbrev box : Bounds
    box = box_of y.lats y.lons

    boxed_on : drop (4 * i) boxes ≡ box.south ∷ box.west ∷ box.north ∷ box.east ∷ (corners_of ys ++ l.rest)
    unfolding corners_of
    boxed_on = l.boxed

    bounds_here : bounds_at boxes i ≡ box
    bounds_here = let list : List ℤ = box.south ∷ box.west ∷ box.north ∷ box.east ∷ (corners_of ys ++ l.rest) in
        let none : 4 * i ≡ 4 * i + 0 = omega arith in
        let s : get_or boxes (4 * i) (pos 0) ≡ box.south = ap (λ (n : ℕ). get_or boxes n (pos 0)) none ∙ at_place boxes list (4 * i) 0 boxed_on in
        let w : get_or boxes (4 * i + 1) (pos 0) ≡ box.west = at_place boxes list (4 * i) 1 boxed_on in
        let n : get_or boxes (4 * i + 2) (pos 0) ≡ box.north = at_place boxes list (4 * i) 2 boxed_on in
        let e : get_or boxes (4 * i + 3) (pos 0) ≡ box.east = at_place boxes list (4 * i) 3 boxed_on in
        ap (λ (z : ℤ). record { south = z; west = get_or boxes (4 * i + 1) (pos 0); north = get_or boxes (4 * i + 2) (pos 0); east = get_or boxes (4 * i + 3) (pos 0) }) s
        ∙ (ap (λ (z : ℤ). record { south = box.south; west = z; north = get_or boxes (4 * i + 2) (pos 0); east = get_or boxes (4 * i + 3) (pos 0) }) w
        ∙ (ap (λ (z : ℤ). record { south = box.south; west = box.west; north = z; east = get_or boxes (4 * i + 3) (pos 0) }) n
        ∙ ap (λ (z : ℤ). record { south = box.south; west = box.west; north = box.north; east = z }) e))

    places_here : places_at places i ≡ record { «record» = begin_of_yard y; border = d }
    places_here = let none : i ≡ i + 0 = omega arith in
        let r : get_or places (2 * i) 0 ≡ begin_of_yard y = ap (λ (n : ℕ). get_or places (2 * n) 0) none ∙ l.begins 0 (omega arith) in
        let b : get_or places (2 * i + 1) 0 ≡ d = ap (λ (n : ℕ). get_or places (2 * n + 1) 0) none ∙ l.borders 0 (omega arith) in
        ap (λ (n : ℕ). record { «record» = n; border = get_or places (2 * i + 1) 0 }) r ∙ ap (λ (n : ℕ). record { «record» = begin_of_yard y; border = n }) b

    entry_here : entry_of_word boxes places i ≡ entry_of all y d
    unfolding entry_of_word
    entry_here = let small : i % 2 ^ 32 ≡ i = omega (arith, l.few) in
        ap (λ (n : ℕ). entry_at (bounds_at boxes n) (places_at places n)) small ∙ (ap (λ (b : Bounds). entry_at b (places_at places i)) bounds_here ∙ ap (entry_at box) places_here)

    lies_on : Lies (suc i) ys ds
    lies_on = let four : 4 * suc i ≡ 4 * i + 4 = omega arith in record {
      few = omega (arith, l.few);
      size = omega (arith, l.size);
      rest = l.rest;
      boxed = ap (λ (n : ℕ). drop n boxes) four ∙ (sym (drop-drop 4 (4 * i) boxes) ∙ ap (drop 4) boxed_on);
      begins = λ j h. let e : suc i + j ≡ i + suc j = omega arith in ap (λ (n : ℕ). get_or places (2 * n) 0) e ∙ l.begins (suc j) (omega (arith, h));
      borders = λ j h. let e : suc i + j ≡ i + suc j = omega arith in ap (λ (n : ℕ). get_or places (2 * n + 1) 0) e ∙ l.borders (suc j) (omega (arith, h));
    }

  entries_from : (i : ℕ) (yards : List Yard) (drawn : List ℕ) → Lies i yards drawn → map (entry_of_word boxes places) (numbers_from i (length yards)) ≡ zip_with (entry_of all) yards drawn
  unfolding numbers_from zip_with
  entries_from i [] drawn l = refl
  entries_from i (y ∷ ys) [] l = absurd (omega (arith, l.size))
  entries_from i (y ∷ ys) (d ∷ ds) l =
      ap (λ (e : Entry). e ∷ map (entry_of_word boxes places) (numbers_from (suc i) (length ys))) (entry_here i y ys d ds l)
      ∙ ap (λ (es : List Entry). entry_of all y d ∷ es) (entries_from (suc i) ys ds (lies_on i y ys d ds l))

-- ---- the table
-- the yards' boxes at the front of a list and their words in order, where each border begins, and then twice a place for each record, of which the second is where it begins
pub table_over : (yards : List Yard) (boxes rest : List ℤ) (keys : List ℕ) → length yards ≤ 4096 → boxes ≡ corners_of yards ++ rest
    → keys ≡ sorted_by key_of (map (word_of_yard boxes) (numbers_from 0 (length yards))) → (before drawn heads begins places : List ℕ) → length drawn ≡ length yards
    → 2 * length yards ≤ length before → begins ≡ map (λ (y : Yard). start_of (records_of yards) y.values) yards → places ≡ spread 0 begins (spread 0 heads (spread 1 drawn before))
    → table_from 0 0 (map (entry_of_word boxes places) keys) ≡ table_of (zip_with (entry_of yards) yards drawn)
table_over yards boxes rest keys few laid order before drawn heads begins places many room eb ep =
    let middle : List ℕ = spread 0 heads (spread 1 drawn before) in
    let wide : length middle ≡ length before = spread_size 0 heads (spread 1 drawn before) ∙ spread_size 1 drawn before in
    let started : length begins ≡ length yards = ap length eb ∙ length-map yards (λ (y : Yard). start_of (records_of yards) y.values) in
    let lies : Lies yards boxes places 0 yards drawn = record {
      few = omega (arith, few);
      size = many;
      rest = rest;
      boxed = laid;
      begins = λ j h.
          let z : 2 * (0 + j) ≡ 0 + 2 * j = omega arith in
          ap (λ (n : ℕ). get_or places n 0) z
          ∙ (ap (λ (p : List ℕ). get_or p (0 + 2 * j) 0) ep ∙ (spread_at 0 begins middle j (omega (arith, h, started)) (omega (arith, h, wide, room)) ∙ ap (λ (l : List ℕ). get_or l j 0) eb));
      borders = λ j h.
          let z : 2 * (0 + j) + 1 ≡ 2 * j + 1 = omega arith in
          let s : 2 * j + 1 ≡ 1 + 2 * j = omega arith in
          ap (λ (n : ℕ). get_or places n 0) z
          ∙ (ap (λ (p : List ℕ). get_or p (2 * j + 1) 0) ep
          ∙ (spread_odd 0 begins middle j
          ∙ (spread_odd 0 heads (spread 1 drawn before) j
          ∙ (ap (λ (n : ℕ). get_or (spread 1 drawn before) n 0) s ∙ spread_at 1 drawn before j (omega (arith, h, many)) (omega (arith, h, room))))));
    } in
    ap (λ (ws : List ℕ). table_from 0 0 (map (entry_of_word boxes places) ws)) order
    ∙ (table_is boxes places (numbers_from 0 (length yards)) ∙ ap table_of (entries_from yards boxes places 0 yards drawn lies))

-- the yards' boxes and words as they were put in order
pub table_stands : (ns : List ℕ) (ys xs : List ℤ) (w : List ℕ) (t : List Text) (yards : List Yard) → yards ≡ yards_from ns ys xs w t
    → (boxes boxes' : List ℤ) (keys spare spare' : List ℕ) → InOrder (yards_from ns ys xs [] []) boxes boxes' keys spare spare' → (before drawn heads begins places : List ℕ)
    → length drawn ≡ length yards → 2 * length yards ≤ length before → begins ≡ map (λ (y : Yard). start_of (records_of yards) y.values) yards
    → places ≡ spread 0 begins (spread 0 heads (spread 1 drawn before)) → table_from 0 0 (map (entry_of_word boxes' places) keys) ≡ table_of (zip_with (entry_of yards) yards drawn)
table_stands ns ys xs w t yards is boxes boxes' keys spare spare' o before drawn heads begins places many room eb ep =
    let bare : List Yard = yards_from ns ys xs [] [] in
    let corners : corners_of bare ≡ corners_of yards = corners_alone ns ys xs [] w [] t ∙ ap corners_of (sym is) in
    let four : 4 * length bare ≡ 4 * length yards = sym (corners_size bare) ∙ (ap length corners ∙ corners_size yards) in
    let count : length bare ≡ length yards = omega (arith, four) in let rest : List ℤ = drop (0 + length (corners_of yards)) boxes in
    let laid : boxes' ≡ corners_of yards ++ rest = o.corners ∙ (ap (sets boxes 0) corners ∙ sets-eq (corners_of yards) boxes 0 (omega (arith, o.room, four, corners_size yards))) in
    let order : keys ≡ sorted_by key_of (map (word_of_yard boxes') (numbers_from 0 (length yards))) = o.order ∙ ap (λ (n : ℕ). sorted_by key_of (map (word_of_yard boxes') (numbers_from 0 n))) count in
    table_over yards boxes' rest keys (omega (arith, o.few, count)) laid order before drawn heads begins places many room eb ep

-- ---- where the records begin, by the yards
map_map : {A B C : Type 0} (f : A → B) (g : B → C) (xs : List A) → map g (map f xs) ≡ map (λ (x : A). g (f x)) xs
map_map f g [] = refl
map_map {C = C} f g (x ∷ xs) = ap (λ (l : List C). g (f x) ∷ l) (map_map f g xs)

pub begins_are : (yards : List Yard) (names : ℕ) (lengths texts : List ℕ) (count : ℕ) → map (λ (y : Yard). y.values) yards ≡ values_to names lengths texts count
    → map (begin_of names lengths texts count) (numbers_from 0 count) ≡ map (λ (y : Yard). start_of (records_of yards) y.values) yards
unfolding values_to
begins_are yards names lengths texts count e = let item : ℕ → List Text = λ yard. item_at (starts_from 0 lengths) texts (yard * names) names in
    sym (map_map item (start_of (firsts same_texts (map item (numbers_from 0 count)))) (numbers_from 0 count))
    ∙ (ap (λ (vs : List (List Text)). map (start_of (firsts same_texts vs)) vs) (sym e) ∙ map_map (λ (y : Yard). y.values) (start_of (records_of yards)) yards)

-- ---- a border for each yard
pub drawn_many : (version room : ℕ) (sofar : List ℕ) (yards : List Yard) (d : Drawn) → given d ≡ drawn_from version room sofar yards → length d.places ≡ length yards
unfolding drawn_from
drawn_many version room sofar [] d e = let same : d ≡ record { bytes = sofar; places = [] } = cc in ap (λ (x : Drawn). length x.places) same
drawn_many version room sofar (y ∷ ys) d e = let first = given_from (with_border version room sofar y) _ e in
    let second = given_from (drawn_from version room first.it ys) _ first.onto in
    let same : d ≡ record { bytes = second.it.bytes; places = length sofar ∷ second.it.places } = cc in
    ap (λ (x : Drawn). length x.places) same ∙ ap suc (drawn_many version room first.it ys second.it second.is)
