-- The first of each, with one more. Assumes nothing.
use Rattle.numbers.proofs.Prelude.{ℕ, zero, suc, ◌+◌, ◌≤◌, ◌<◌, Bool, true, false, ◌||◌, List, [], ◌∷◌, ◌++◌, map, append_assoc, append-nil, flat_map, ◌≡◌, refl, sym, ap, ◌∙◌, arith}
use Rattle.numbers.specs.Answer.{if◌then◌else◌}
use Rattle.builder.specs.{Grouping.Keys.{numbers_from}, Metadata.{fields_of}, Sharing.{is_in, firsts_after}, Yards.{Text}}

-- ---- numbers
pub numbers_more : (i n : ℕ) → numbers_from i (suc n) ≡ numbers_from i n ++ ((i + n) ∷ [])
unfolding numbers_from
numbers_more i zero = let e : i ≡ i + 0 = omega arith in ap (λ (k : ℕ). k ∷ []) e
numbers_more i (suc n) = let e : suc i + n ≡ i + suc n = omega arith in
    ap (λ (l : List ℕ). i ∷ l) (numbers_more (suc i) n ∙ ap (λ (k : ℕ). numbers_from (suc i) n ++ (k ∷ [])) e)

pub map_more : {A B : Type 0} (f : A → B) (xs ys : List A) → map f (xs ++ ys) ≡ map f xs ++ map f ys
map_more f [] ys = refl
map_more f (x ∷ xs) ys = ap (λ l. f x ∷ l) (map_more f xs ys)

pub flat_more : {A : Type 0} (f : A → List ℕ) (xs ys : List A) → flat_map f (xs ++ ys) ≡ flat_map f xs ++ flat_map f ys
unfolding flat_map
flat_more f [] ys = refl
flat_more f (x ∷ xs) ys = ap (λ (l : List ℕ). f x ++ l) (flat_more f xs ys) ∙ sym (append_assoc (f x) (flat_map f xs) (flat_map f ys))

pub fields_more : (rs ss : List (List Text)) → fields_of (rs ++ ss) ≡ fields_of rs ++ fields_of ss
unfolding fields_of
fields_more [] ss = refl
fields_more (r ∷ rs) ss = ap (λ (l : List Text). r ++ l) (fields_more rs ss) ∙ sym (append_assoc r (fields_of rs) (fields_of ss))

pub fields_one : (r : List Text) → fields_of (r ∷ []) ≡ r
unfolding fields_of
fields_one r = append-nil r

-- ---- found among some
or_false : (b : Bool) → (b || false) ≡ b
or_false true = refl
or_false false = refl

module _ {A : Type 0} (same : A → A → Bool) (f : ℕ → A) (x : A) where
  pub in_none : (i n : ℕ) → ((j : ℕ) → i ≤ j → j < i + n → same x (f j) ≡ false) → is_in same x (map f (numbers_from i n)) ≡ false
  unfolding is_in numbers_from
  in_none i zero none = refl
  in_none i (suc n) none = rw (none i (omega arith) (omega arith)) (in_none (suc i) n (λ j a b. none j (omega arith) (omega arith)))

  pub in_some : (i n j : ℕ) → i ≤ j → j < i + n → same x (f j) ≡ true → is_in same x (map f (numbers_from i n)) ≡ true
  unfolding is_in numbers_from
  in_some i zero j a b e = absurd (omega arith)
  in_some i (suc n) j a b e = go (same x (f i)) refl (λ h. in_some (suc i) n j h (omega arith) e) where
    no' : true ≡ false → ⊥
    no' e = let z : ◌≡◌ {A = ℕ} 0 1 = cc in omega arith

    later : same x (f i) ≡ false → suc i ≤ j
    later no'' = far (λ is. no' (sym e ∙ (ap (λ (k : ℕ). same x (f k)) (sym is) ∙ no''))) where
      far : (i ≡ j → ⊥) → suc i ≤ j
      far not = omega (arith, a, not)

    go : (t : Bool) → same x (f i) ≡ t → (suc i ≤ j → is_in same x (map f (numbers_from (suc i) n)) ≡ true) → (t || is_in same x (map f (numbers_from (suc i) n))) ≡ true
    go true is more = refl
    go false is more = more (later is)

-- ---- the first of each, with one more behind
module _ {A : Type 0} (same : A → A → Bool) (equal : (x y : A) → same x y ≡ true → x ≡ y) where
  swap : (a b c : Bool) → ((a || b) || c) ≡ (b || (a || c))
  swap true true c = refl
  swap true false c = refl
  swap false true c = refl
  swap false false c = refl

  -- one that is the same as one seen is seen
  absorbed : (seen : List A) (x y : A) (rest : Bool) → is_in same y seen ≡ true → (is_in same x seen || rest) ≡ (is_in same x seen || (same x y || rest))
  absorbed seen x y rest e = go (same x y) refl where
    go : (t : Bool) → same x y ≡ t → (is_in same x seen || rest) ≡ (is_in same x seen || (t || rest))
    go true is = let in' : is_in same x seen ≡ true = ap (λ (z : A). is_in same z seen) (equal x y is) ∙ e in rw in'
    go false is = refl

  pub firsts_more : (seen xs : List A) (x : A) → firsts_after same seen (xs ++ (x ∷ [])) ≡ firsts_after same seen xs ++ (if is_in same x seen || is_in same x xs then [] else (x ∷ []))
  unfolding firsts_after is_in
  firsts_more seen [] x = ap (λ (t : Bool). if t then [] else (x ∷ [])) (sym (or_false (is_in same x seen)))
  firsts_more seen (y ∷ xs) x = go (is_in same y seen) refl (firsts_more seen xs x) (firsts_more (y ∷ seen) xs x) where
    tail : Bool → List A
    tail t = if t then [] else (x ∷ [])

    go : (t : Bool) → is_in same y seen ≡ t → firsts_after same seen (xs ++ (x ∷ [])) ≡ firsts_after same seen xs ++ tail (is_in same x seen || is_in same x xs)
        → firsts_after same (y ∷ seen) (xs ++ (x ∷ [])) ≡ firsts_after same (y ∷ seen) xs ++ tail ((same x y || is_in same x seen) || is_in same x xs)
        → (if t then firsts_after same seen (xs ++ (x ∷ [])) else (y ∷ firsts_after same (y ∷ seen) (xs ++ (x ∷ [])))) ≡ (if t then firsts_after same seen xs
        else (y ∷ firsts_after same (y ∷ seen) xs)) ++ tail (is_in same x seen || (same x y || is_in same x xs))
    go true e a b = a ∙ ap (λ (t : Bool). firsts_after same seen xs ++ tail t) (absorbed seen x y (is_in same x xs) e)
    go false e a b = ap (λ (l : List A). y ∷ l) (b ∙ ap (λ (t : Bool). firsts_after same (y ∷ seen) xs ++ tail t) (swap (same x y) (is_in same x seen) (is_in same x xs)))

  pub firsts_new : (xs : List A) (x : A) → is_in same x xs ≡ false → firsts_after same [] (xs ++ (x ∷ [])) ≡ firsts_after same [] xs ++ (x ∷ [])
  unfolding is_in
  firsts_new xs x e = firsts_more [] xs x ∙ ap (λ (t : Bool). firsts_after same [] xs ++ (if t then [] else (x ∷ []))) e

  pub firsts_old : (xs : List A) (x : A) → is_in same x xs ≡ true → firsts_after same [] (xs ++ (x ∷ [])) ≡ firsts_after same [] xs
  unfolding is_in
  firsts_old xs x e = firsts_more [] xs x ∙ (ap (λ (t : Bool). firsts_after same [] xs ++ (if t then [] else (x ∷ []))) e ∙ append-nil (firsts_after same [] xs))
