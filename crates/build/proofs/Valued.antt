-- The values of a plan's yards are the items of the lent lists. Assumes nothing.
use Rattle.numbers.proofs.Prelude.{ℕ, zero, suc, ◌+◌, ◌-◌, ◌*◌, ◌≤◌, eqb-true, eqb, ℤ, length, take, drop, drop-drop, take-take, true, List, [], ◌∷◌, map, ◌≡◌, refl, sym, ap, ◌∙◌, suc-mul, arith}
use Rattle.numbers.proofs.Tests.{both}
use lib.Seq.{take-nil}
use Rattle.writer.specs.Writer.{every}
use Rattle.builder.{proofs.{Counting.{cut_take}, grouping.{Meant.{item_part}, Walks.{item_among}}}, specs.Grouping.{Items.{starts_from, item_at}, Keys.{numbers_from}}}
use Rattle.builder.specs.Yards.{Text, Yard, cut_by, sum_of, yards_from, values_from}
use Rattle.build.specs.Metadata.Kept.{values_to}
use Rattle.build.proofs.recording.Fewer.{map_same}

-- ---- yard by yard, so many values each
abbrev pub part : ℕ → List Text → ℕ → List Text
part names texts yard = take names (drop (yard * names) texts)

pub map_next : {A : Type 0} (f : ℕ → A) (i n : ℕ) → map f (numbers_from (suc i) n) ≡ map (λ (k : ℕ). f (suc k)) (numbers_from i n)
unfolding numbers_from
map_next f i zero = refl
map_next {A} f i (suc n) = ap (λ (l : List A). f (suc i) ∷ l) (map_next f (suc i) n)

pub shift : (names : ℕ) (t : List Text) (k : ℕ) → part names (drop names t) k ≡ part names t (suc k)
shift names t k = let e : names + k * names ≡ suc k * names = omega (arith, suc-mul k names) in
    ap (take names) (drop-drop (k * names) names t) ∙ ap (λ (n : ℕ). take names (drop n t)) e

yard_parts : (names : ℕ) (ns : List ℕ) (ys xs : List ℤ) (w : List ℕ) (t : List Text) → every (eqb names) (values_from ns) ≡ true
    → map (λ (y : Yard). y.values) (yards_from ns ys xs w t) ≡ map (part names t) (numbers_from 0 (length (values_from ns)))
unfolding yards_from values_from every numbers_from
yard_parts names (a ∷ b ∷ p ∷ v ∷ rest) ys xs w t e = let two = both (eqb names v) (every (eqb names) (values_from rest)) e in
    let is : v ≡ names = sym (eqb-true names v two.0) in let none : 0 * names ≡ 0 = omega arith in
    let first : take v t ≡ part names t 0 = ap (λ (n : ℕ). take n t) is ∙ ap (λ (n : ℕ). take names (drop n t)) (sym none) in
    let more : map (λ (y : Yard). y.values) (yards_from rest (drop a ys) (drop b xs) (drop (5 * p) w) (drop v t)) ≡ map (part names t) (numbers_from 1
    (length (values_from rest))) = yard_parts names rest (drop a ys) (drop b xs) (drop (5 * p) w) (drop v t) two.1
    ∙ (ap (λ (n : ℕ). map (part names (drop n t)) (numbers_from 0 (length (values_from rest)))) is ∙ (map_same (part names (drop names t))
    (λ (k : ℕ). part names t (suc k)) 0 (length (values_from rest)) (λ k c d. shift names t k) ∙ sym (map_next (part names t) 0 (length (values_from rest))))) in
    ap (λ (x : List Text). x ∷ map (λ (y : Yard). y.values) (yards_from rest (drop a ys) (drop b xs) (drop (5 * p) w) (drop v t))) first ∙ ap (λ (l : List (List Text)). part names t 0 ∷ l) more
yard_parts names (a ∷ b ∷ p ∷ []) ys xs w t e = refl
yard_parts names (a ∷ b ∷ []) ys xs w t e = refl
yard_parts names (a ∷ []) ys xs w t e = refl
yard_parts names [] ys xs w t e = refl

-- ---- a part of the lent lists
cut_drop : (k : ℕ) (ls xs : List ℕ) → drop k (cut_by ls xs) ≡ cut_by (drop k ls) (drop (sum_of (take k ls)) xs)
unfolding cut_by sum_of
cut_drop zero ls xs = refl
cut_drop (suc k) [] xs = refl
cut_drop (suc k) (l ∷ ls) xs = cut_drop k ls (drop l xs) ∙ ap (cut_by (drop k ls)) (drop-drop (sum_of (take k ls)) l xs)

cut_front : (ls : List ℕ) (n : ℕ) (xs : List ℕ) → sum_of ls ≤ n → cut_by ls (take n xs) ≡ cut_by ls xs
unfolding cut_by sum_of
cut_front [] n xs h = refl
cut_front (l ∷ ls) n xs h =
    ap (λ (t : Text). t ∷ cut_by ls (drop l (take n xs))) (take-take l n xs (omega arith))
    ∙ ap (λ (r : List Text). take l xs ∷ r) (ap (cut_by ls) (drop_take l n xs (omega arith)) ∙ cut_front ls (n - l) (drop l xs) (omega arith)) where
      drop_take : (l n : ℕ) (xs : List ℕ) → l ≤ n → drop l (take n xs) ≡ take (n - l) (drop l xs)
      drop_take zero n xs h = let e : n ≡ n - 0 = omega arith in ap (λ (k : ℕ). take k xs) e
      drop_take (suc l) zero xs h = absurd (omega arith)
      drop_take (suc l) (suc n) [] h = sym (take-nil (suc n - suc l))
      drop_take (suc l) (suc n) (x ∷ xs) h = let e : n - l ≡ suc n - suc l = omega arith in drop_take l n xs (omega arith) ∙ ap (λ (k : ℕ). take k (drop l xs)) e

part_of_front : (a b n : ℕ) (l : List Text) → b + a ≤ n → take a (drop b (take n l)) ≡ take a (drop b l)
part_of_front a zero n l h = take-take a n l (omega arith)
part_of_front a (suc b) zero l h = absurd (omega arith)
part_of_front a (suc b) (suc n) [] h = refl
part_of_front a (suc b) (suc n) (x ∷ l) h = part_of_front a b n l (omega arith)

-- the values of the yards, over the lengths and texts of the values alone
pub values_are : (names : ℕ) (ns : List ℕ) (ys xs : List ℤ) (w lengths texts : List ℕ) (count : ℕ) → every (eqb names) (values_from ns) ≡ true
    → length (values_from ns) ≡ count → (behind : ℕ) → behind ≡ sum_of (take (names + 1) lengths) → length (take (count * names) (drop (names + 1) lengths)) ≡ count * names
    → (size : ℕ) → sum_of (take (count * names) (drop (names + 1) lengths)) ≤ size → map (λ (y : Yard). y.values) (yards_from ns ys xs w (drop (names + 1)
    (cut_by lengths texts))) ≡ values_to names (take (count * names) (drop (names + 1) lengths)) (take size (drop behind texts)) count
unfolding values_to
values_are names ns ys xs w lengths texts count e many behind eb long size fits = let ls : List ℕ = take (count * names) (drop (names + 1) lengths) in
    let ts : List ℕ = take size (drop behind texts) in let all : List Text = drop (names + 1) (cut_by lengths texts) in
    let fields : cut_by ls ts ≡ take (count * names) all = cut_front ls size (drop behind texts) fits ∙ (cut_take (count * names) (drop (names + 1) lengths)
    (drop behind texts) ∙ ap (take (count * names)) (ap (λ (n : ℕ). cut_by (drop (names + 1) lengths) (drop n texts)) eb ∙ sym (cut_drop (names + 1) lengths texts))) in
    yard_parts names ns ys xs w all e ∙ (ap (λ (n : ℕ). map (part names all) (numbers_from 0 n)) many ∙ map_same (part names all)
    (λ (k : ℕ). item_at (starts_from 0 ls) ts (k * names) names) 0 count (λ k a b. let among : k * names + names ≤ count * names = item_among k count names
    (omega arith) in sym (item_part ls ts (k * names) names (omega (arith, among, long)) ∙ (ap (λ (l : List Text). take names (drop (k * names) l)) fields
    ∙ part_of_front names (k * names) (count * names) all (omega (arith, among))))))
