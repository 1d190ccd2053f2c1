-- The counts and the texts of a plan as it is lent. Assumes nothing.
use Rattle.numbers.proofs.Prelude.{ℕ, zero, suc, ◌+◌, ◌*◌, ◌/◌, ◌≤◌, ◌<◌, min, eq-eqb, ne_eqb, lt-ltb, le-leb, le-ltb, leb-true, lt-leb, eqb-true, eqb, ltb, leb, ℤ, length, take, drop, get_or}
use Rattle.numbers.proofs.Prelude.{length-take, drop-cons, take-add, Bool, true, false, ◌&&◌, List, [], ◌∷◌, ◌++◌, ◌≡◌, refl, sym, ap, ◌∙◌, mul-suc, mul-le-mul_right, arith}
use Rattle.numbers.proofs.Tests.{both}
use Rattle.writer.specs.Writer.{every}
use Rattle.builder.proofs.Checking.{four_words}
use Rattle.builder.specs.{File.{is_text, are_texts, counted, readable}, Yards.{Text, Yard, Lent, cut_by, sum_of, yards_from, values_from, counted_lengths, plan_of, lengths_good, counts_good}}
use mathlib.Core.Bool.{and-false, and_assoc}

-- ---- a value for each name
-- what is left of the words, cut by so many
pub record Numbering (names : ℕ) (yards left : List ℕ) (size : ℕ) : Type 0 where
  pub four : size ≡ 4
  pub same : every (eqb names) (values_from left) ≡ every (eqb names) (values_from yards)

pub numbers_start : (names : ℕ) (yards left : List ℕ) (size : ℕ) → left ≡ yards → size ≡ 4 → Numbering names yards left size
numbers_start names yards left size e f = record { four = f; same = ap (λ (ns : List ℕ). every (eqb names) (values_from ns)) e }

none_valued : (names : ℕ) (ns : List ℕ) → length ns < 4 → every (eqb names) (values_from ns) ≡ true
unfolding values_from every
none_valued names (a ∷ b ∷ p ∷ v ∷ rest) h = let few : suc (suc (suc (suc (length rest)))) < 4 = h in absurd (omega (arith, few))
none_valued names (a ∷ b ∷ p ∷ []) h = refl
none_valued names (a ∷ b ∷ []) h = refl
none_valued names (a ∷ []) h = refl
none_valued names [] h = refl

module _ (names : ℕ) (yards left : List ℕ) (size : ℕ) (n : Numbering names yards left size) where
  module _ (yard rest : List ℕ) (cut : left ≡ yard ++ rest) (long : length yard ≡ size) where
    value_step : every (eqb names) (values_from left) ≡ (eqb names (get_or yard 3 0) && every (eqb names) (values_from rest))
    unfolding values_from every
    value_step = ap (λ (ns : List ℕ). every (eqb names) (values_from ns)) (cut ∙ four_words yard rest (long ∙ n.four))

    pub number_bad : (names ≡ get_or yard 3 0 → ⊥) → false ≡ every (eqb names) (values_from yards)
    number_bad other = let no : eqb names (get_or yard 3 0) ≡ false = ne_eqb names (get_or yard 3 0) other in
        let bad : every (eqb names) (values_from left) ≡ false = value_step ∙ ap (λ (b : Bool). b && every (eqb names) (values_from rest)) no in
        sym bad ∙ n.same

    pub number_good : names ≡ get_or yard 3 0 → (size' : ℕ) → size' ≡ size → Numbering names yards rest size'
    number_good e size' kept = let is : eqb names (get_or yard 3 0) ≡ true = eq-eqb names (get_or yard 3 0) e in
        let on : every (eqb names) (values_from left) ≡ every (eqb names) (values_from rest) = value_step
        ∙ ap (λ (b : Bool). b && every (eqb names) (values_from rest)) is in record { four = kept ∙ n.four; same = sym on ∙ n.same }

  pub numbers_end : length left < size → true ≡ every (eqb names) (values_from yards)
  numbers_end few = sym (none_valued names left (omega (arith, few, n.four))) ∙ n.same

-- ---- 25
at_most : (product count : ℕ) → product ≤ 255 * count → count ≤ 4096 → product ≤ 1044480
at_most product count h few = omega (arith, h, few)

pub lengths_room : (names count : ℕ) → names ≤ 255 → count ≤ 4096 → names * count ≤ 1044480
lengths_room names count named few = at_most (names * count) count (mul-le-mul_right count named) few

pub lengths_are : (names count lengths : ℕ) → leb (names + 1 + names * count) lengths ≡ lengths_good names count lengths
unfolding lengths_good
lengths_are names count lengths = refl

module _ (names : ℕ) (yards : List ℕ) (lengths : ℕ) where
  abbrev count : ℕ
  count = length yards / 4

  abbrev asked3 : Bool
  asked3 = every (eqb names) (values_from yards) && lengths_good names count lengths

  abbrev asked2 : Bool
  asked2 = leb names 255 && asked3

  abbrev asked1 : Bool
  asked1 = leb count 4096 && asked2

  asked : counts_good names yards lengths ≡ (ltb 0 count && asked1)
  unfolding counts_good
  asked = refl

  pub counts_none : count ≡ 0 → false ≡ counts_good names yards lengths
  counts_none none = sym (asked ∙ ap (λ (b : Bool). b && asked1) (le-ltb 0 count (omega (arith, none))))

  module _ (some : count ≡ 0 → ⊥) where
    first : counts_good names yards lengths ≡ asked1
    first = asked ∙ ap (λ (b : Bool). b && asked1) (lt-ltb 0 count (omega (arith, some)))

    pub counts_many : 4096 < count → false ≡ counts_good names yards lengths
    counts_many many = sym (first ∙ ap (λ (b : Bool). b && asked2) (lt-leb count 4096 many))

    module _ (few : count ≤ 4096) where
      second : counts_good names yards lengths ≡ asked2
      second = first ∙ ap (λ (b : Bool). b && asked2) (le-leb count 4096 few)

      pub counts_names : 255 < names → false ≡ counts_good names yards lengths
      counts_names many = sym (second ∙ ap (λ (b : Bool). b && asked3) (lt-leb names 255 many))

      module _ (named : names ≤ 255) where
        third : counts_good names yards lengths ≡ asked3
        third = second ∙ ap (λ (b : Bool). b && asked3) (le-leb names 255 named)

        pub counts_other : every (eqb names) (values_from yards) ≡ false → false ≡ counts_good names yards lengths
        counts_other other = sym (third ∙ ap (λ (b : Bool). b && lengths_good names count lengths) other)

        pub counts_all : every (eqb names) (values_from yards) ≡ true → (r : Bool) → r ≡ lengths_good names count lengths → r ≡ counts_good names yards lengths
        counts_all numbered r is = is ∙ sym (third ∙ ap (λ (b : Bool). b && lengths_good names count lengths) numbered)

-- four words are a yard, and a number of values
pub four_more : (n : ℕ) → suc (suc (suc (suc n))) / 4 ≡ suc (n / 4)
four_more n = omega arith

pub yards_many : (ns : List ℕ) (ys xs : List ℤ) (w : List ℕ) (t : List Text) → length (yards_from ns ys xs w t) ≡ length ns / 4
unfolding yards_from
yards_many (a ∷ b ∷ p ∷ v ∷ rest) ys xs w t = ap suc (yards_many rest (drop a ys) (drop b xs) (drop (5 * p) w) (drop v t)) ∙ sym (four_more (length rest))
yards_many (a ∷ b ∷ p ∷ []) ys xs w t = refl
yards_many (a ∷ b ∷ []) ys xs w t = refl
yards_many (a ∷ []) ys xs w t = refl
yards_many [] ys xs w t = refl

pub values_many : (ns : List ℕ) → length (values_from ns) ≡ length ns / 4
unfolding values_from
values_many (a ∷ b ∷ p ∷ v ∷ rest) = ap suc (values_many rest) ∙ sym (four_more (length rest))
values_many (a ∷ b ∷ p ∷ []) = refl
values_many (a ∷ b ∷ []) = refl
values_many (a ∷ []) = refl
values_many [] = refl

pub cut_many : (ns xs : List ℕ) → length (cut_by ns xs) ≡ length ns
unfolding cut_by
cut_many [] xs = refl
cut_many (n ∷ ns) xs = ap suc (cut_many ns (drop n xs))

-- over plain numbers
least_of : (n p k : ℕ) → n + 1 + p ≤ k → min n k ≡ n
least_of n p k h = omega (arith, h)

less_of : (n p k : ℕ) → n + 1 + p ≤ k → n < k
less_of n p k h = omega (arith, h)

next_of : (n p : ℕ) → n + 1 + p ≡ n + suc p
next_of n p = omega arith

-- where the lengths do not reach, the number of names is no matter
names_by : (n k m : ℕ) (v fit : Bool) → leb (n + 1 + n * m) k ≡ fit → (leb (min n k) 255 && (v && fit)) ≡ (leb n 255 && (v && fit))
names_by n k m v true e = let reach : n + 1 + n * m ≤ k = leb-true (n + 1 + n * m) k e in ap (λ (x : ℕ). leb x 255 && (v && true)) (least_of n (n * m) k reach)
names_by n k m v false e =
    ap (λ (b : Bool). leb (min n k) 255 && b) (and-false v) ∙ (and-false (leb (min n k) 255) ∙ sym (ap (λ (b : Bool). leb n 255 && b) (and-false v) ∙ and-false (leb n 255)))

-- 25 of the plan is 25 over what was lent
pub counted_is : (lent : Lent) → counted (plan_of lent) ≡ counts_good lent.names lent.yards (length lent.lengths)
unfolding counted plan_of counts_good lengths_good counted_lengths
counted_is lent = let n : ℕ = lent.names in let ns : List ℕ = lent.yards in let k : ℕ = length lent.lengths in
    let texts : List Text = cut_by lent.lengths lent.texts in let many : ℕ = length ns / 4 in let valued : Bool = every (eqb n) (values_from ns) in
    let named : length (take n texts) ≡ min n k = length-take n texts ∙ ap (λ (x : ℕ). min n x) (cut_many lent.lengths lent.texts) in
    ap (λ (y : ℕ). ltb 0 y && (leb y 4096 && (leb (length (take n texts)) 255 && (valued && leb (n + 1 + n * length (values_from ns)) k)))) (yards_many ns
    lent.lats lent.lons lent.pieces (drop (n + 1) texts)) ∙ (ap (λ (y : ℕ). ltb 0 many && (leb many 4096 && (leb y 255 && (valued && leb (n + 1 + n * length (values_from ns)) k)))) named
    ∙ (ap (λ (y : ℕ). ltb 0 many && (leb many 4096 && (leb (min n k) 255 && (valued && leb (n + 1 + n * y) k)))) (values_many ns)
    ∙ ap (λ (b : Bool). ltb 0 many && (leb many 4096 && b)) (names_by n k many valued (leb (n + 1 + n * many) k) refl)))

-- ---- 26
pub cut_take : (m : ℕ) (ns xs : List ℕ) → cut_by (take m ns) xs ≡ take m (cut_by ns xs)
unfolding cut_by
cut_take zero ns xs = refl
cut_take (suc m) [] xs = refl
cut_take (suc m) (n ∷ ns) xs = ap (λ (ts : List Text). take n xs ∷ ts) (cut_take m ns (drop n xs))

every_append : {A : Type 0} (good : A → Bool) (xs ys : List A) → every good (xs ++ ys) ≡ (every good xs && every good ys)
unfolding every
every_append good [] ys = refl
every_append good (x ∷ xs) ys = ap (λ (b : Bool). good x && b) (every_append good xs ys) ∙ sym (and_assoc (good x) (every good xs) (every good ys))

mul_more : (n m : ℕ) → n * suc m ≡ n + n * m
mul_more n m = let e : n * suc m ≡ n * m + n = mul-suc n m in omega (arith, e)

none_taken : (n : ℕ) (t : List Text) → true ≡ every is_text (take (n * 0) t)
unfolding every
none_taken n t = let none : 0 ≡ n * 0 = omega arith in ap (λ (u : ℕ). every is_text (take u t)) none

-- the values of all yards, one after another
values_good : (n : ℕ) (ns : List ℕ) (ys xs : List ℤ) (w : List ℕ) (t : List Text) → every (eqb n) (values_from ns) ≡ true
    → every (λ (y : Yard). every is_text y.values) (yards_from ns ys xs w t) ≡ every is_text (take (n * length (values_from ns)) t)
unfolding yards_from values_from every
values_good n (a ∷ b ∷ p ∷ v ∷ rest) ys xs w t h = let each = both (eqb n v) (every (eqb n) (values_from rest)) h in
    let is : v ≡ n = sym (eqb-true n v each.0) in let m : ℕ = length (values_from rest) in let size : n * suc m ≡ n + n * m = mul_more n m in
    ap (λ (q : Bool). every is_text (take v t) && q) (values_good n rest (drop a ys) (drop b xs) (drop (5 * p) w) (drop v t) each.1)
    ∙ (ap (λ (u : ℕ). every is_text (take u t) && every is_text (take (n * m) (drop u t))) is ∙ (sym (every_append is_text (take n t) (take (n * m) (drop n t)))
    ∙ ap (every is_text) (sym (ap (λ (u : ℕ). take u t) size ∙ take-add n (n * m) t))))
values_good n (a ∷ b ∷ p ∷ []) ys xs w t h = none_taken n t
values_good n (a ∷ b ∷ []) ys xs w t h = none_taken n t
values_good n (a ∷ []) ys xs w t h = none_taken n t
values_good n [] ys xs w t h = none_taken n t

-- what good counts say
counts_say : (names : ℕ) (yards : List ℕ) (lengths : ℕ) → counts_good names yards lengths ≡ true → (every (eqb names) (values_from yards) ≡ true) × (names < lengths)
unfolding counts_good lengths_good
counts_say names yards lengths h = let count : ℕ = length yards / 4 in let valued : Bool = every (eqb names) (values_from yards) in
    let reach : Bool = leb (names + 1 + names * count) lengths in let one = both (ltb 0 count) (leb count 4096 && (leb names 255 && (valued && reach))) h in
    let four = both valued reach (both (leb names 255) (valued && reach) (both (leb count 4096) (leb names 255 && (valued && reach)) one.1).1).1 in
    (four.0, less_of names (names * count) lengths (leb-true (names + 1 + names * count) lengths four.1))

-- names, notice and values
plan_texts : (n m : ℕ) (texts : List Text) → n < length texts → take (n + 1 + n * m) texts ≡ take n texts ++ (get_or texts n [] ∷ take (n * m) (drop (n + 1) texts))
plan_texts n m texts long = let up : suc n ≡ n + 1 = omega arith in
    let rest : drop n texts ≡ get_or texts n [] ∷ drop (n + 1) texts = drop-cons texts n [] long ∙ ap (λ (u : ℕ). get_or texts n [] ∷ drop u texts) up in
    ap (λ (u : ℕ). take u texts) (next_of n (n * m)) ∙ (take-add n (suc (n * m)) texts ∙ ap (λ (l : List Text). take n texts ++ take (suc (n * m)) l) rest)

last_texts : (n m : ℕ) (texts : List Text) (values : Bool) → values ≡ every is_text (take (n * m) (drop (n + 1) texts))
    → (every is_text (take n texts) && every is_text (get_or texts n [] ∷ take (n * m) (drop (n + 1) texts))) ≡ (every is_text (take n texts) && (is_text (get_or texts n []) && values))
unfolding every
last_texts n m texts values is = ap (λ (b : Bool). every is_text (take n texts) && (is_text (get_or texts n []) && b)) (sym is)

-- where the counts are good, the lengths that count are those of the plan's texts
pub readable_is : (lent : Lent) → counts_good lent.names lent.yards (length lent.lengths) ≡ true → are_texts (take (counted_lengths lent) lent.lengths) lent.texts ≡ readable (plan_of lent)
unfolding are_texts readable plan_of counted_lengths
readable_is lent good = let n : ℕ = lent.names in let texts : List Text = cut_by lent.lengths lent.texts in
    let m : ℕ = length (values_from lent.yards) in let told = counts_say lent.names lent.yards (length lent.lengths) good in
    let known : every (eqb n) (values_from lent.yards) ≡ true = told.0 in
    let long : n < length texts = omega (arith, told.1, cut_many lent.lengths lent.texts) in
    ap (λ (b : Bool). leb (sum_of (take (n + 1 + n * m) lent.lengths)) (length lent.texts) && b) (ap (every is_text) (cut_take (n + 1 + n * m)
    lent.lengths lent.texts ∙ plan_texts n m texts long) ∙ (every_append is_text (take n texts) (get_or texts n [] ∷ take (n * m) (drop (n + 1) texts))
    ∙ last_texts n m texts (every (λ (y : Yard). every is_text y.values) (yards_from lent.yards lent.lats lent.lons lent.pieces (drop (n + 1) texts)))
    (values_good n lent.yards lent.lats lent.lons lent.pieces (drop (n + 1) texts) known)))
