-- Words that stand at a place, and words that are the same. Assumes nothing.
use Rattle.numbers.proofs.Prelude.{ℕ, zero, suc, ◌+◌, ◌≤◌, ◌<◌, eq-eqb, lt-ltb, ltb-true, eqb-true, eqb, ltb, length, drop, get_or, length-append, drop_of_length-le, sets, drop-cons}
use Rattle.numbers.proofs.{Prelude.{Bool, true, false, ◌&&◌, List, [], ◌∷◌, ◌++◌, append_assoc, ◌≡◌, refl, sym, ap, ◌∙◌, add-zero, arith}, Tests.{differ, both}}
use lib.Seq.{get_or-append_seam}
use Rattle.index.proofs.Sides.{and_rest}
use Rattle.index.specs.{Own.{is_same}, Tied.{word_at}, inner.Own.{is_word, is_at}}
use mathlib.Core.Bool.{and_assoc}

-- ---- tests one after the other
pub goes : {r : Bool} (a b : Bool) → a ≡ true → r ≡ b → r ≡ (a && b)
goes a b e f = f ∙ and_rest a b e

pub so_both : (a b : Bool) → a ≡ true → b ≡ true → (a && b) ≡ true
so_both a b e f = sym (goes a b e (sym f))

pub and_end : (a : Bool) → a ≡ (a && true)
and_end true = refl
and_end false = refl

pub and_not : (a b : Bool) → b ≡ false → false ≡ (a && b)
and_not true b e = sym e
and_not false b e = refl

-- ---- what is left of words from one on
pub next_left : (more : List ℕ) (i : ℕ) → i < length more → drop i more ≡ get_or more i 0 ∷ drop (i + 1) more
next_left more i h = let one : suc i ≡ i + 1 = omega arith in drop-cons more i 0 h ∙ ap (λ (k : ℕ). get_or more i 0 ∷ drop k more) one

pub none_left : (more : List ℕ) (i : ℕ) → length more ≤ i → drop i more ≡ []
none_left more i h = drop_of_length-le more h

module _ (words : List ℕ) (at : ℕ) (more : List ℕ) (i : ℕ) where
  pub next_stands : i < length more → is_at words (at + i) (drop i more) ≡ (is_word words (at + i) (get_or more i 0) && is_at words (at + (i + 1)) (drop (i + 1) more))
  unfolding is_at
  next_stands h = let one : at + i + 1 ≡ at + (i + 1) = omega arith in
      ap (is_at words (at + i)) (next_left more i h) ∙ ap (λ (k : ℕ). is_word words (at + i) (get_or more i 0) && is_at words k (drop (i + 1) more)) one

  pub none_stand : length more ≤ i → is_at words (at + i) (drop i more) ≡ true
  unfolding is_at
  none_stand h = ap (is_at words (at + i)) (none_left more i h)

-- ---- words at a place
module _ (words : List ℕ) where
  pub word_so : (at x : ℕ) → at < length words → word_at words at ≡ x → is_word words at x ≡ true
  word_so at x h e = so_both _ _ (lt-ltb at (length words) h) (eq-eqb (word_at words at) x e)

  -- a word by another name
  pub by_word : (at : ℕ) {x y : ℕ} {r : Bool} → y ≡ x → r ≡ is_word words at y → r ≡ is_word words at x
  by_word at e f = f ∙ ap (is_word words at) e

  pub at_append : (at : ℕ) (xs ys : List ℕ) → is_at words at (xs ++ ys) ≡ (is_at words at xs && is_at words (at + length xs) ys)
  unfolding is_at
  at_append at [] ys = ap (λ (k : ℕ). is_at words k ys) (sym (add-zero at))
  at_append at (x ∷ xs) ys = let e : at + 1 + length xs ≡ at + suc (length xs) = omega arith in
      ap (λ (b : Bool). is_word words at x && b) (at_append (at + 1) xs ys) ∙ sym (and_assoc (is_word words at x) (is_at words (at + 1) xs) (is_at words (at + 1 + length xs) ys))
      ∙ ap (λ (k : ℕ). (is_word words at x && is_at words (at + 1) xs) && is_at words k ys) e

  pub at_read : (xs : List ℕ) (at i : ℕ) → is_at words at xs ≡ true → i < length xs → get_or words (at + i) 0 ≡ get_or xs i 0
  unfolding is_at
  at_read [] at i e h = absurd (omega arith)
  at_read (x ∷ xs) at zero e h = let z : at + 0 ≡ at = omega arith in
      ap (λ (k : ℕ). get_or words k 0) z ∙ eqb-true _ _ (both (ltb at (length words)) (eqb (word_at words at) x) (both (is_word words at x) _ e).0).1
  at_read (x ∷ xs) at (suc i) e h = let z : at + suc i ≡ at + 1 + i = omega arith in
      ap (λ (k : ℕ). get_or words k 0) z ∙ at_read xs (at + 1) i (both (is_word words at x) _ e).1 (omega arith)

  pub at_inside : (xs : List ℕ) (at : ℕ) → is_at words at xs ≡ true → at ≤ length words → at + length xs ≤ length words
  unfolding is_at
  at_inside [] at e h = omega arith
  at_inside (x ∷ xs) at e h = let p = both (is_word words at x) (is_at words (at + 1) xs) e in
      let inside = ltb-true at (length words) (both (ltb at (length words)) (eqb (word_at words at) x) p.0).0 in
      let rest = at_inside xs (at + 1) p.1 (omega (arith, inside)) in omega (arith, rest)

  -- words that stand from a place to the end are all that is there
  pub at_rest : (xs : List ℕ) (at : ℕ) → is_at words at xs ≡ true → length words ≡ at + length xs → drop at words ≡ xs
  unfolding is_at
  at_rest [] at e h = drop_of_length-le words {i = at} (omega (arith, h))
  at_rest (x ∷ xs) at e h = let p = both (is_word words at x) (is_at words (at + 1) xs) e in
      let test = both (ltb at (length words)) (eqb (word_at words at) x) p.0 in let s : suc at ≡ at + 1 = omega arith in
      drop-cons words at 0 (ltb-true at (length words) test.0)
      ∙ (λ i. eqb-true (word_at words at) x test.1 i ∷ (ap (λ (k : ℕ). drop k words) s ∙ at_rest xs (at + 1) p.1 (omega (arith, h))) i)

pub at_here : (xs front : List ℕ) → is_at (front ++ xs) (length front) xs ≡ true
unfolding is_at
at_here [] front = refl
at_here (x ∷ xs) front = let more : (front ++ x ∷ []) ++ xs ≡ front ++ x ∷ xs = append_assoc front (x ∷ []) xs in
    let up : length (front ++ x ∷ []) ≡ length front + 1 = length-append front (x ∷ []) in
    so_both _ _ (word_so (front ++ x ∷ xs) (length front) x (omega (arith, length-append front (x ∷ xs))) (get_or-append_seam front x xs 0))
    (sym (λ i. is_at (more i) (up i) xs) ∙ at_here xs (front ++ x ∷ []))

-- ---- the same words
pub same_words : (xs ys : List ℕ) → is_same xs ys ≡ true → xs ≡ ys
unfolding is_same
same_words [] [] e = refl
same_words (x ∷ xs) (y ∷ ys) e = let p = both (eqb x y) (is_same xs ys) e in λ i. eqb-true x y p.0 i ∷ same_words xs ys p.1 i
same_words [] (y ∷ ys) e = differ e
same_words (x ∷ xs) [] e = differ e

pub same_self : (xs : List ℕ) → is_same xs xs ≡ true
unfolding is_same
same_self [] = refl
same_self (x ∷ xs) = so_both _ _ (eq-eqb x x refl) (same_self xs)

-- ---- nothing is stored in no words
pub sets_none : (xs : List ℕ) (at : ℕ) → [] ≡ sets [] at xs
sets_none [] at = refl
sets_none (x ∷ xs) at = sets_none xs (suc at)
