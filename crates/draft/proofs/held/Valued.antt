-- Some yards that stand in lists: their values are the items of the texts, and of their boxes the first numbers are the lower latitudes. Assumes nothing.
use Rattle.numbers.proofs.Prelude.{ℕ, suc, ◌+◌, ◌*◌, eqb-true, eqb, ℤ, pos, length, take, drop, get_or, length-map, take-append-drop, take_at, drop-drop, drop_at, get_or-drop, true, List, []}
use Rattle.numbers.proofs.Prelude.{◌∷◌, ◌++◌}
use Rattle.numbers.proofs.{Prelude.{map, ◌≡◌, refl, sym, ap, ◌∙◌, mul_comm, arith}, Tests.{both}}
use Rattle.writer.specs.Writer.{every}
use Rattle.builder.{proofs.grouping.{Meant.{item_part}, Walks.{item_among}}, specs.{Borders.{Drawn}, Entries.{box_of, lowest_of}, Grouping.{Items.{starts_from, item_at}, Keys.{numbers_from}}}}
use Rattle.builder.specs.{Metadata.{fields_of}, Yards.{Text, Yard, cut_by, sum_of}, declared.boxes.Bounds.{Bounds}}
use Rattle.build.{proofs.{Valued.{part, map_next, shift}, metadata.Begun.{cut_join}, recording.Fewer.{joined_sum, map_same}}, specs.{Entries.Corners.{corners_of}, Metadata.Kept.{values_to}}}
use Rattle.draft.proofs.held.Standing.{fields_many}
use Rattle.draft.specs.Held.State.{Stands}

-- ---- the values, yard by yard, so many each
abbrev values : List Yard → List (List Text)
values yards = map (λ (y : Yard). y.values) yards

module _ (names : ℕ) where
  parts_are : (yards : List Yard) → every (λ y. eqb names (length y.values)) yards ≡ true → map (part names (fields_of (values yards))) (numbers_from 0 (length yards)) ≡ values yards
  unfolding every fields_of numbers_from
  parts_are [] e = refl
  parts_are (y ∷ ys) e = let two = both (eqb names (length y.values)) (every (λ y. eqb names (length y.values)) ys) e in
      let is : length y.values ≡ names = sym (eqb-true names (length y.values) two.0) in let rest : List Text = fields_of (values ys) in
      let none : 0 * names ≡ 0 = omega arith in let n : ℕ = length ys in
      let first : part names (y.values ++ rest) 0 ≡ y.values = ap (λ (k : ℕ). take names (drop k (y.values ++ rest))) none ∙ take_at y.values rest names is in
      let more : map (part names (y.values ++ rest)) (numbers_from 1 n) ≡ values ys = map_next (part names (y.values ++ rest)) 0 n
      ∙ (map_same (λ (k : ℕ). part names (y.values ++ rest) (suc k)) (part names rest) 0 n (λ k a b. sym (shift names (y.values ++ rest) k)
      ∙ ap (λ (l : List Text). part names l k) (drop_at y.values rest names is)) ∙ parts_are ys two.1) in
      ap (λ (x : List Text). x ∷ map (part names (y.values ++ rest)) (numbers_from 1 n)) first ∙ ap (λ (l : List (List Text)). y.values ∷ l) more

-- ---- the lower latitudes
pub souths_from : (boxes : List ℤ) (i : ℕ) (yards : List Yard) (rest : List ℤ) → drop (4 * i) boxes ≡ corners_of yards ++ rest
    → map (λ (yard : ℕ). get_or boxes (4 * yard) (pos 0)) (numbers_from i (length yards)) ≡ map (λ (y : Yard). lowest_of y.lats) yards
unfolding numbers_from corners_of
souths_from boxes i [] rest e = refl
souths_from boxes i (y ∷ ys) rest e = let box : Bounds = box_of y.lats y.lons in let none : 4 * i ≡ 4 * i + 0 = omega arith in
    let four : 4 * suc i ≡ 4 * i + 4 = omega arith in
    let here : get_or boxes (4 * i) (pos 0) ≡ lowest_of y.lats = ap (λ (n : ℕ). get_or boxes n (pos 0)) none ∙ (sym (get_or-drop (4 * i) boxes 0 (pos 0))
    ∙ ap (λ (l : List ℤ). get_or l 0 (pos 0)) e) in
    let onward : drop (4 * suc i) boxes ≡ corners_of ys ++ rest = ap (λ (n : ℕ). drop n boxes) four ∙ (sym (drop-drop 4 (4 * i) boxes) ∙ ap (drop 4) e) in
    ap (λ (z : ℤ). z ∷ map (λ (yard : ℕ). get_or boxes (4 * yard) (pos 0)) (numbers_from (suc i) (length ys))) here ∙
    ap (λ (l : List ℤ). lowest_of y.lats ∷ l) (souths_from boxes (suc i) ys rest onward)

module _ (yards : List Yard) (drawn : Drawn) (names count : ℕ) (boxes : List ℤ) (borders lengths texts : List ℕ) (s : Stands yards drawn names count boxes borders lengths texts) where
  abbrev fields : List Text
  fields = fields_of (values yards)

  pub held_whole : length texts ≡ sum_of lengths
  held_whole = ap length s.texts_are ∙ (joined_sum fields ∙ ap sum_of (sym s.lengths_are))

  pub held_all : length lengths ≡ count * names
  held_all = ap length s.lengths_are ∙ (length-map fields length ∙ (fields_many names yards s.valued ∙ (ap (λ (n : ℕ). names * n) (sym s.many) ∙ mul_comm names count)))

  held_cut : cut_by lengths texts ≡ fields
  held_cut = ap (λ (l : List ℕ). cut_by l texts) s.lengths_are ∙ (ap (cut_by (map length fields)) s.texts_are ∙ cut_join fields)

  pub held_values : map (λ (y : Yard). y.values) yards ≡ values_to names lengths texts count
  unfolding values_to
  held_values =
      sym (map_same (λ (k : ℕ). item_at (starts_from 0 lengths) texts (k * names) names) (part names fields) 0 count
      (λ k a b. item_part lengths texts (k * names) names (omega (arith, held_all, item_among k count names (omega arith))) ∙ ap (λ (l : List Text). part names l k) held_cut)
      ∙ (ap (λ (n : ℕ). map (part names fields) (numbers_from 0 n)) s.many ∙ parts_are names yards s.valued))

  pub held_boxes : boxes ≡ corners_of yards ++ drop (4 * count) boxes
  held_boxes = sym (take-append-drop (4 * count) boxes) ∙ ap (λ (l : List ℤ). l ++ drop (4 * count) boxes) s.boxes_are
