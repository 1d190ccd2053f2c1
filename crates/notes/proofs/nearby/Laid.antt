-- The entries of yards that lie in a builder's lists, and with one yard more. Assumes nothing.
use Rattle.numbers.proofs.Prelude.{ℕ, suc, ◌+◌, ◌*◌, ℤ, pos, length, take, drop, get_or, take-append-drop, get_or-append-add, get_or_at, List, [], ◌∷◌, ◌++◌, map, append_assoc, zip_with, ◌≡◌}
use Rattle.numbers.proofs.Prelude.{refl, sym, ap}
use Rattle.numbers.proofs.Prelude.{◌∙◌, arith}
use Rattle.builder.specs.{Entries.{Entry, bounds_at, box_of, entry_at, table_of}, File.{entry_of}, Grouping.Keys.{numbers_from}, Metadata.{records_of, start_of}, Yards.{Yard}}
use Rattle.builder.specs.declared.boxes.Bounds.{Bounds}
use Rattle.build.{proofs.{Valued.{map_next}, entries.Tabled.{corners_size}}, specs.Entries.Corners.{corners_of}}
use Rattle.notes.specs.inner.{Nearby.Nearby.{entry_for, entries_at, entry_with}, Noted.OneMore.{OneMore}}
use Rattle.notes.proofs.noted.OneMore.{entry_new, entries_more}

map_same : {A B : Type 0} (f g : A → B) → ((a : A) → f a ≡ g a) → (xs : List A) → map f xs ≡ map g xs
map_same f g same [] = refl
map_same {B = B} f g same (x ∷ xs) = ap (λ (b : B). b ∷ map f xs) (same x) ∙ ap (λ (l : List B). g x ∷ l) (map_same f g same xs)

-- the entry of the next yard, in lists that have a yard more in front
entry_next : (s w n e : ℤ) (boxes : List ℤ) (r b : ℕ) (begins borders : List ℕ) (yard : ℕ) → entry_for (s ∷ w ∷ n ∷ e ∷ boxes) (r ∷ begins) (b ∷ borders)
    (suc yard) ≡ entry_for boxes begins borders yard
entry_next s w n e boxes r b begins borders yard = let one : 4 * suc yard ≡ suc (suc (suc (suc (4 * yard)))) = omega arith in
    let two : 4 * suc yard + 1 ≡ suc (suc (suc (suc (4 * yard + 1)))) = omega arith in
    let three : 4 * suc yard + 2 ≡ suc (suc (suc (suc (4 * yard + 2)))) = omega arith in
    let four : 4 * suc yard + 3 ≡ suc (suc (suc (suc (4 * yard + 3)))) = omega arith in rw (two, three, four, one)

-- the yards of all, one after another, in lists that begin with what they have
module _ (all : List Yard) (boxes : List ℤ) (begins borders : List ℕ) where
  entries_from : (yards : List Yard) (places : List ℕ) → length places ≡ length yards
      → map (entry_for (corners_of yards ++ boxes) (map (λ (y : Yard). start_of (records_of all) y.values) yards ++ begins) (places ++ borders)) (numbers_from 0 (length yards)) ≡ zip_with
      (entry_of all) yards places
  unfolding corners_of numbers_from zip_with
  entries_from [] places e = refl
  entries_from (y ∷ ys) [] e = absurd (omega (arith, e))
  entries_from (y ∷ ys) (p ∷ ps) e = let box : Bounds = box_of y.lats y.lons in let begin : ℕ = start_of (records_of all) y.values in
      let bs : List ℤ = corners_of ys ++ boxes in let rs : List ℕ = map (λ (y : Yard). start_of (records_of all) y.values) ys ++ begins in
      let later : ℕ → Entry = entry_for (box.south ∷ box.west ∷ box.north ∷ box.east ∷ bs) (begin ∷ rs) (p ∷ (ps ++ borders)) in
      ap (λ (l : List Entry). entry_of all y p ∷ l) (map_next later 0 (length ys) ∙ (map_same (λ (k : ℕ). later (suc k)) (entry_for bs rs (ps ++ borders))
      (entry_next box.south box.west box.north box.east bs begin p rs (ps ++ borders)) (numbers_from 0 (length ys)) ∙ entries_from ys ps (omega (arith, e))))

-- a list that begins so
split : {A : Type 0} (n : ℕ) (list front : List A) → take n list ≡ front → list ≡ front ++ drop n list
split {A} n list front e = sym (take-append-drop n list) ∙ ap (λ (l : List A). l ++ drop n list) e

module _ (yards : List Yard) (boxes : List ℤ) (begins borders rest : List ℕ) (begun : begins ≡ map (λ (y : Yard). start_of (records_of yards) y.values) yards ++ rest) (places : List ℕ)
    (many : length places ≡ length yards) where
  -- the yards' boxes, begins and places stand at the front of these lists
  entries_front : (bs : List ℤ) → boxes ≡ corners_of yards ++ bs → (ps : List ℕ) → borders ≡ places ++ ps → entries_at boxes begins borders (length yards) ≡ zip_with (entry_of yards) yards places
  unfolding entries_at
  entries_front bs boxed ps bordered = let starts : List ℕ = map (λ (y : Yard). start_of (records_of yards) y.values) yards ++ rest in
      ap (λ (l : List ℤ). map (entry_for l begins borders) (numbers_from 0 (length yards))) boxed
      ∙ (ap (λ (l : List ℕ). map (entry_for (corners_of yards ++ bs) l borders) (numbers_from 0 (length yards))) begun
      ∙ (ap (λ (l : List ℕ). map (entry_for (corners_of yards ++ bs) starts l) (numbers_from 0 (length yards))) bordered ∙ entries_from yards bs rest ps yards places many))

  pub entries_are : take (4 * length yards) boxes ≡ corners_of yards → take (length yards) borders ≡ places → entries_at boxes begins borders (length yards) ≡ zip_with (entry_of yards) yards places
  entries_are boxed bordered =
      entries_front (drop (4 * length yards) boxes) (split (4 * length yards) boxes (corners_of yards) boxed) (drop (length yards) borders) (split (length yards) borders places bordered)

  -- ---- one yard more, its box and its border's place behind the others
  module _ (y : Yard) (bs : List ℤ) (boxed : boxes ≡ (corners_of yards ++ corners_of (y ∷ [])) ++ bs) (place : ℕ) (ps : List ℕ) (bordered : borders ≡ (places ++ (place ∷ [])) ++ ps) where
    boxes_on : boxes ≡ corners_of yards ++ (corners_of (y ∷ []) ++ bs)
    boxes_on = boxed ∙ append_assoc (corners_of yards) (corners_of (y ∷ [])) bs

    borders_on : borders ≡ places ++ (place ∷ ps)
    borders_on = bordered ∙ append_assoc places (place ∷ []) ps

    corner : (k : ℕ) → get_or boxes (4 * length yards + k) (pos 0) ≡ get_or (corners_of (y ∷ []) ++ bs) k (pos 0)
    corner k =
        ap (λ (l : List ℤ). get_or l (4 * length yards + k) (pos 0)) boxes_on
        ∙ (ap (λ (n : ℕ). get_or (corners_of yards ++ (corners_of (y ∷ []) ++ bs)) (n + k) (pos 0)) (sym (corners_size yards))
        ∙ get_or-append-add (corners_of yards) (corners_of (y ∷ []) ++ bs) k (pos 0))

    box_is : bounds_at boxes (length yards) ≡ box_of y.lats y.lons
    unfolding corners_of
    box_is = let none : 4 * length yards ≡ 4 * length yards + 0 = omega arith in
        rw (ap (λ (n : ℕ). get_or boxes n (pos 0)) none ∙ corner 0, corner 1, corner 2, corner 3)

    place_is : get_or borders (length yards) 0 ≡ place
    place_is = ap (λ (l : List ℕ). get_or l (length yards) 0) borders_on ∙ get_or_at places place ps 0 (length yards) many

    -- the table of all of them is that of the entries, with the new one behind
    pub tables_are : (by begin : ℕ) → OneMore yards y by begin → length (table_of (zip_with (entry_of (yards ++ (y ∷ []))) (yards ++ (y ∷ []))
        (places ++ (place ∷ [])))) ≡ length (table_of (entries_at boxes begins borders (length yards) ++ (entry_with boxes borders (length yards) begin ∷ [])))
    tables_are by begin m =
        let front : entries_at boxes begins borders (length yards) ≡ zip_with (entry_of yards) yards places = entries_front (corners_of (y ∷ []) ++ bs) boxes_on (place ∷ ps) borders_on in
        let last : entry_with boxes borders (length yards) begin ≡ entry_new yards y by begin m place =
        ap (λ (b : Bounds). entry_at b (record { «record» = begin; border = get_or borders (length yards) 0 })) box_is ∙
        ap (λ (n : ℕ). entry_at (box_of y.lats y.lons) (record { «record» = begin; border = n })) place_is in
        ap (λ (es : List Entry). length (table_of es))
        (entries_more yards y by begin m place places many
        ∙ sym (ap (λ (es : List Entry). es ++ (entry_with boxes borders (length yards) begin ∷ [])) front ∙ ap (λ (e : Entry). zip_with (entry_of yards) yards places ++ (e ∷ [])) last))
