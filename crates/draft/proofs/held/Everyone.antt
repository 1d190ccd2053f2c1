-- What holds of every item of a list holds of a list with one more, with fewer, or with one changed. Assumes nothing.
use Rattle.numbers.proofs.{Prelude.{ℕ, zero, suc, length, take, set, Bool, true, ◌&&◌, List, [], ◌∷◌, ◌++◌, ◌≡◌, refl, ap, ◌∙◌}, Tests.{both}}
use mathlib.Core.Bool.{and-true}
use Rattle.writer.specs.Writer.{every}
use Rattle.draft.specs.Held.Builder.{changed_at}

module _ {A : Type 0} where
  pub length_changed : (change : A → A) (n : ℕ) (xs : List A) → length (changed_at n change xs) ≡ length xs
  unfolding changed_at
  length_changed change n [] = refl
  length_changed change zero (x ∷ xs) = refl
  length_changed change (suc n) (x ∷ xs) = ap suc (length_changed change n xs)

  pub changed_set : (x : A) (n : ℕ) (xs : List A) → changed_at n (λ old. x) xs ≡ set xs n x
  unfolding changed_at
  changed_set x n [] = refl
  changed_set x zero (y ∷ ys) = refl
  changed_set x (suc n) (y ∷ ys) = ap (λ (l : List A). y ∷ l) (changed_set x n ys)

  module _ (good : A → Bool) where
    pub every_more : (xs : List A) (x : A) → every good xs ≡ true → every good (xs ++ (x ∷ [])) ≡ good x
    unfolding every
    every_more [] x e = and-true (good x)
    every_more (y ∷ ys) x e = let two = both (good y) (every good ys) e in
        ap (λ (b : Bool). b && every good (ys ++ (x ∷ []))) two.0 ∙ every_more ys x two.1

    pub every_take : (n : ℕ) (xs : List A) → every good xs ≡ true → every good (take n xs) ≡ true
    unfolding every
    every_take zero xs e = refl
    every_take (suc n) [] e = refl
    every_take (suc n) (x ∷ xs) e = let two = both (good x) (every good xs) e in
        ap (λ (b : Bool). b && every good (take n xs)) two.0 ∙ every_take n xs two.1

    pub every_changed : (change : A → A) → ((x : A) → good x ≡ true → good (change x) ≡ true) → (n : ℕ) (xs : List A) → every good xs ≡ true → every good (changed_at n change xs) ≡ true
    unfolding every changed_at
    every_changed change h n [] e = refl
    every_changed change h zero (x ∷ xs) e = let two = both (good x) (every good xs) e in ap (λ (b : Bool). b && every good xs) (h x two.0) ∙ two.1
    every_changed change h (suc n) (x ∷ xs) e = let two = both (good x) (every good xs) e in
        ap (λ (b : Bool). b && every good (changed_at n change xs)) two.0 ∙ every_changed change h n xs two.1
