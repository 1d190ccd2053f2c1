-- The yards in the order of the table: what the function's three steps come to. Assumes nothing.
use Rattle.numbers.proofs.Prelude.{ℕ, zero, suc, ◌*◌, ◌/◌, ◌≤◌, le-leb, ltb, ℤ, length, take, drop, length-map, length-take, sets, length-take-le, Bool, true, List, [], ◌∷◌, map, ◌≡◌, refl, sym, ap}
use Rattle.numbers.{proofs.Prelude.{◌∙◌, arith}, specs.Answer.{if◌then◌else◌}}
use Rattle.writer.specs.Pieces.{pieces_of}
use Rattle.builder.{proofs.{Counting.{yards_many, four_more}, grouping.Listed.{numbers_many}}, specs.{Entries.{word_of_yard}, Grouping.Keys.{numbers_from}, Yards.{Text, Yard, yards_from, part_of}}}
use Rattle.layout.specs.{Order.{key_of, sorted_by}, inner.Answers.{Sorted}}
use Rattle.build.specs.Entries.Corners.{corners_of, InOrder}

-- a remainder of words is no yard
front_yards : (n : ℕ) (ns : List ℕ) (ys xs : List ℤ) (w : List ℕ) (t : List Text) → n ≡ length ns / 4 → yards_from (take (4 * n) ns) ys xs w t ≡ yards_from ns ys xs w t
unfolding yards_from
front_yards zero (a ∷ b ∷ p ∷ v ∷ rest) ys xs w t e = absurd (omega (arith, e, four_more (length rest)))
front_yards (suc n) (a ∷ b ∷ p ∷ v ∷ rest) ys xs w t e = let four : 4 * suc n ≡ suc (suc (suc (suc (4 * n)))) = omega arith in
    let less : n ≡ length rest / 4 = omega (arith, e, four_more (length rest)) in
    ap (λ (k : ℕ). yards_from (take k (a ∷ b ∷ p ∷ v ∷ rest)) ys xs w t) four
    ∙ ap (λ (l : List Yard). record { lats = part_of a ys; lons = part_of b xs; pieces = pieces_of (take (5 * p) w); values = take v t; cut = ltb (length w) (5 * p) } ∷ l)
    (front_yards n rest (drop a ys) (drop b xs) (drop (5 * p) w) (drop v t) less)
front_yards zero (a ∷ b ∷ p ∷ []) ys xs w t e = refl
front_yards zero (a ∷ b ∷ []) ys xs w t e = refl
front_yards zero (a ∷ []) ys xs w t e = refl
front_yards zero [] ys xs w t e = refl
front_yards (suc n) (a ∷ b ∷ p ∷ []) ys xs w t e = absurd (omega (arith, e))
front_yards (suc n) (a ∷ b ∷ []) ys xs w t e = absurd (omega (arith, e))
front_yards (suc n) (a ∷ []) ys xs w t e = absurd (omega (arith, e))
front_yards (suc n) [] ys xs w t e = absurd (omega (arith, e))

-- the words of the yards are there, and have room
pub words_there : (k : ℕ) (ns : List ℕ) → k ≡ length ns / 4 → 4 * k ≡ length (take (4 * k) ns)
words_there k ns e = sym (length-take-le (4 * k) ns (omega (arith, e)))

pub words_room : (k room : ℕ) (ns : List ℕ) → 4 * k ≤ room → length (take (4 * k) ns) ≤ room
words_room k room ns h = omega (arith, h, length-take (4 * k) ns)

module _ (ns : List ℕ) (ys xs boxes : List ℤ) (k : ℕ) (spare : List ℕ) (count : k ≡ length ns / 4) where
  module _ (boxes' : List ℤ) (boxed : boxes' ≡ sets boxes 0 (corners_of (yards_from (take (4 * k) ns) ys xs [] []))) where
    pub in_order : k ≤ 4096 → 4 * k ≤ length boxes → k ≤ length spare → (words : List ℕ) → words ≡ map (word_of_yard boxes') (numbers_from 0 k)
        → (after other : List ℕ) (has : Bool) → Sorted words spare after other has → InOrder (yards_from ns ys xs [] []) boxes boxes' after spare other
    in_order few room long words e after other has s = let many : length (yards_from ns ys xs [] []) ≡ k = yards_many ns ys xs [] [] ∙ sym count in
        let size : length words ≡ k = ap length e ∙ (length-map (numbers_from 0 k) (word_of_yard boxes') ∙ numbers_many 0 k) in
        let has_room : has ≡ true = s.room ∙ le-leb (length words) (length spare) (omega (arith, size, long)) in record {
          few = omega (arith, many, few);
          room = omega (arith, many, room);
          corners = boxed ∙ ap (λ (l : List Yard). sets boxes 0 (corners_of l)) (front_yards k ns ys xs [] [] count);
          order =
              s.order
              ∙ (ap (λ (b : Bool). if b then sorted_by key_of words else words) has_room
              ∙ (ap (sorted_by key_of) e ∙ ap (λ (n : ℕ). sorted_by key_of (map (word_of_yard boxes') (numbers_from 0 n))) (sym many)));
          rest = s.rest;
        }
