-- The first of each: whatever is found has its first one, and it stands behind the bytes of those before it. Assumes nothing.
use Rattle.numbers.proofs.Prelude.{ℕ, ◌+◌, ◌≤◌, eq-eqb, leb-true, eqb-true, eqb, leb, length, length-append, Bool, true, false, ◌||◌, List, [], ◌∷◌, ◌++◌, map, append_assoc, flat_map, ◌≡◌, refl, sym}
use Rattle.numbers.{proofs.{Prelude.{ap, ◌∙◌, arith}, Tests.{both, differ}}, specs.Answer.{if◌then◌else◌}}
use Rattle.builder.specs.Sharing.{same_by, same_text, same_texts, is_in, times_in, firsts_after, firsts, size_before, good_ones}

-- a test that says whether two are equal
pub record Decides {A : Type 0} (same : A → A → Bool) : Type 0 where
  pub equal : (x y : A) → same x y ≡ true → x ≡ y
  pub self : (x : A) → same x x ≡ true

pub numbers_decided : Decides eqb
numbers_decided = record { equal = eqb-true; self = λ x. eq-eqb x x refl }

module _ {A : Type 0} (same : A → A → Bool) (d : Decides same) where
  all_equal : (xs ys : List A) → same_by same xs ys ≡ true → xs ≡ ys
  unfolding same_by
  all_equal [] [] e = refl
  all_equal [] (y ∷ ys) e = differ e
  all_equal (x ∷ xs) [] e = differ e
  all_equal (x ∷ xs) (y ∷ ys) e = let now = both (same x y) (same_by same xs ys) e in
      ap (λ (a : A). a ∷ xs) (d.equal x y now.0) ∙ ap (λ (l : List A). y ∷ l) (all_equal xs ys now.1)

  all_self : (xs : List A) → same_by same xs xs ≡ true
  unfolding same_by
  all_self [] = refl
  all_self (x ∷ xs) = rw (d.self x) (all_self xs)

  pub lists_decided : Decides (same_by same)
  lists_decided = record { equal = all_equal; self = all_self }

  -- ---- found in a list
  times_in_lem : (x : A) (xs : List A) → 1 ≤ times_in same x xs → is_in same x xs ≡ true
  unfolding times_in is_in
  times_in_lem x [] h = absurd (omega arith)
  times_in_lem x (y ∷ ys) h = go (same x y) (times_in_lem x ys) h where
    go : (t : Bool) → (1 ≤ times_in same x ys → is_in same x ys ≡ true) → 1 ≤ (if t then 1 else 0) + times_in same x ys → (t || is_in same x ys) ≡ true
    go true later h = refl
    go false later h = later (omega arith)

  good_in : (good : A → Bool) (x : A) (xs : List A) → good x ≡ true → is_in same x xs ≡ true → is_in same x (good_ones good xs) ≡ true
  unfolding is_in good_ones
  good_in good x [] is e = e
  good_in good x (y ∷ ys) is e = go (same x y) refl (good y) refl (good_in good x ys is) e where
    go : (t : Bool) → same x y ≡ t → (g : Bool) → good y ≡ g → (is_in same x ys ≡ true → is_in same x (good_ones good ys) ≡ true) → (t || is_in same x ys) ≡ true
        → is_in same x (if g then (y ∷ good_ones good ys) else good_ones good ys) ≡ true
    go true s true g later e = rw s
    go true s false g later e = differ (sym g ∙ ap good (sym (d.equal x y s)) ∙ is)
    go false s true g later e = rw s (later e)
    go false s false g later e = later e

  first_in : (x : A) (seen xs : List A) → is_in same x seen ≡ false → is_in same x xs ≡ true → is_in same x (firsts_after same seen xs) ≡ true
  unfolding is_in firsts_after
  first_in x seen [] h e = e
  first_in x seen (y ∷ ys) h e = go (same x y) refl (is_in same y seen) refl (first_in x seen ys h) (first_in x (y ∷ seen) ys) e where
    go : (t : Bool) → same x y ≡ t → (s : Bool) → is_in same y seen ≡ s → (is_in same x ys ≡ true → is_in same x (firsts_after same seen ys) ≡ true)
        → ((same x y || is_in same x seen) ≡ false → is_in same x ys ≡ true → is_in same x (firsts_after same (y ∷ seen) ys) ≡ true) → (t || is_in same x ys) ≡ true
        → is_in same x (if s then firsts_after same seen ys else (y ∷ firsts_after same (y ∷ seen) ys)) ≡ true
    go true t true s old new e = differ (sym h ∙ ap (λ (a : A). is_in same a seen) (d.equal x y t) ∙ s)
    go true t false s old new e = rw t
    go false t true s old new e = old e
    go false t false s old new e = rw t (new (rw (t, h)) e)

  pub firsts_in : (x : A) (xs : List A) → is_in same x xs ≡ true → is_in same x (firsts same xs) ≡ true
  unfolding is_in
  firsts_in x xs e = first_in x [] xs refl e

  -- ---- where it stands
  pub record Stood (bytes : A → List ℕ) (x : A) (xs : List A) : Type 0 where
    pub before : List ℕ
    pub behind : List ℕ
    pub is : flat_map bytes xs ≡ before ++ (bytes x ++ behind)
    pub size : length before ≡ size_before same (λ y. length (bytes y)) x xs

  pub stood : (bytes : A → List ℕ) (x : A) (xs : List A) → is_in same x xs ≡ true → Stood bytes x xs
  unfolding is_in flat_map size_before
  stood bytes x [] e = differ e
  stood bytes x (y ∷ ys) e = go (same x y) refl (stood bytes x ys) e where
    go : (t : Bool) → same x y ≡ t → (is_in same x ys ≡ true → Stood bytes x ys) → (t || is_in same x ys) ≡ true → Stood bytes x (y ∷ ys)
    go true s later e = record { before = []; behind = flat_map bytes ys; is = ap (λ (a : A). bytes a ++ flat_map bytes ys) (sym (d.equal x y s)); size = rw s }
    go false s later e = let l = later e in record {
      before = bytes y ++ l.before;
      behind = l.behind;
      is = ap (λ (bs : List ℕ). bytes y ++ bs) l.is ∙ sym (append_assoc (bytes y) l.before (bytes x ++ l.behind));
      size = rw s (length-append (bytes y) l.before ∙ ap (λ (n : ℕ). length (bytes y) + n) l.size);
    }

  -- the first of the good ones that are found twice
  pub twice_in : (good : A → Bool) (x : A) (xs : List A) → good x ≡ true → leb 2 (times_in same x xs) ≡ true → is_in same x (firsts same (good_ones good xs)) ≡ true
  twice_in good x xs is h = firsts_in x (good_ones good xs) (good_in good x xs is (times_in_lem x xs (omega (arith, leb-true 2 (times_in same x xs) h))))

pub texts_decided : Decides same_text
texts_decided = lists_decided eqb numbers_decided

pub records_decided : Decides same_texts
records_decided = lists_decided same_text texts_decided

-- what one of a list's items gives is found among what they all give
pub map_in : {A B : Type 0} (same : B → B → Bool) (d : Decides same) (f : A → B) (before : List A) (x : A) (after : List A) → is_in same (f x) (map f (before ++ (x ∷ after))) ≡ true
unfolding is_in
map_in same d f [] x after = rw (d.self (f x))
map_in same d f (y ∷ before) x after = go (same (f x) (f y)) (map_in same d f before x after) where
  go : (t : Bool) → is_in same (f x) (map f (before ++ (x ∷ after))) ≡ true → (t || is_in same (f x) (map f (before ++ (x ∷ after)))) ≡ true
  go true later = refl
  go false later = later
