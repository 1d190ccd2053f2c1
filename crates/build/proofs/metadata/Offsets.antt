-- Where the texts behind the records lie, by first use. Assumes nothing.
use Rattle.numbers.{proofs.{Prelude.{ℕ, ◌+◌, ◌≤◌, Bool, true, false, ◌||◌, List, [], ◌∷◌, ◌++◌, append-nil, ◌≡◌, refl, sym, ap, ◌∙◌, arith}, Tests.{differ, neither}}, specs.Answer.{if◌then◌else◌}}
use Rattle.builder.specs.Sharing.{is_in, firsts_after, size_before, good_ones}
use Rattle.build.proofs.metadata.Shared.{firsts_new, firsts_old}

module _ {A : Type 0} (same : A → A → Bool) (equal : (x y : A) → same x y ≡ true → x ≡ y) (itself : (x : A) → same x x ≡ true) (good : A → Bool) (size : A → ℕ) where
  -- the sizes of some
  unfoldable pub total : List A → ℕ
  total [] = 0
  total (x ∷ xs) = size x + total xs

  -- the good ones by first use, beside those seen before
  abbrev pub used : List A → List A → List A
  used seen xs = firsts_after same seen (good_ones good xs)

  used_bad : (seen : List A) (y : A) (ys : List A) → good y ≡ false → used seen (y ∷ ys) ≡ used seen ys
  unfolding good_ones
  used_bad seen y ys e = ap (λ (b : Bool). firsts_after same seen (if b then (y ∷ good_ones good ys) else good_ones good ys)) e

  used_good : (seen : List A) (y : A) (ys : List A) → good y ≡ true → (c : Bool) → is_in same y seen ≡ c → used seen (y ∷ ys) ≡ (if c then used seen ys else (y ∷ used (y ∷ seen) ys))
  unfolding good_ones firsts_after
  used_good seen y ys e c f =
      ap (λ (b : Bool). firsts_after same seen (if b then (y ∷ good_ones good ys) else good_ones good ys)) e ∙ ap (λ (b : Bool). if b then used seen ys else (y ∷ used (y ∷ seen) ys)) f

  behind : (t y : A) (ys : List A) → same t y ≡ false → size_before same size t (y ∷ ys) ≡ size y + size_before same size t ys
  unfolding size_before
  behind t y ys e = ap (λ (b : Bool). if b then 0 else (size y + size_before same size t ys)) e

  at_front : (t y : A) (ys : List A) → same t y ≡ true → size_before same size t (y ∷ ys) ≡ 0
  unfolding size_before
  at_front t y ys e = ap (λ (b : Bool). if b then 0 else (size y + size_before same size t ys)) e

  -- one that is new lies behind those before it
  pub new_place : (seen before : List A) (t : A) (rest : List A) → good t ≡ true → is_in same t seen ≡ false → is_in same t before ≡ false →
      size_before same size t (used seen (before ++ (t ∷ rest))) ≡ total (used seen before)
  unfolding is_in total good_ones firsts_after
  new_place seen [] t rest g s p = ap (size_before same size t) (used_good seen t rest g false s) ∙ at_front t t (used (t ∷ seen) rest) (itself t)
  new_place seen (y ∷ before) t rest g s p =
      split (good y) refl (is_in same y seen) refl (new_place seen before t rest g s both.1)
      (new_place (y ∷ seen) before t rest g (ap (λ (b : Bool). b || is_in same t seen) both.0 ∙ s) both.1) where
        both : (same t y ≡ false) × (is_in same t before ≡ false)
        both = neither (same t y) (is_in same t before) p

        all : List A
        all = before ++ (t ∷ rest)

        split : (b : Bool) → good y ≡ b → (c : Bool) → is_in same y seen ≡ c → size_before same size t (used seen all) ≡ total (used seen before)
            → size_before same size t (used (y ∷ seen) all) ≡ total (used (y ∷ seen) before) → size_before same size t (used seen (y ∷ all)) ≡ total (used seen (y ∷ before))
        split false e c f here there = ap (size_before same size t) (used_bad seen y all e) ∙ (here ∙ sym (ap total (used_bad seen y before e)))
        split true e true f here there = ap (size_before same size t) (used_good seen y all e true f) ∙ (here ∙ sym (ap total (used_good seen y before e true f)))
        split true e false f here there =
            ap (size_before same size t) (used_good seen y all e false f)
            ∙ (behind t y (used (y ∷ seen) all) both.0 ∙ (ap (λ (n : ℕ). size y + n) there ∙ sym (ap total (used_good seen y before e false f))))

  -- one that came before lies whole among those before
  pub old_place : (seen before : List A) (t : A) (rest : List A) → good t ≡ true → is_in same t seen ≡ false → is_in same t before ≡ true →
      size_before same size t (used seen (before ++ rest)) + size t ≤ total (used seen before)
  unfolding is_in total
  old_place seen [] t rest g s p = differ p
  old_place seen (y ∷ before) t rest g s p = split (good y) refl (is_in same y seen) refl (same t y) refl (λ h. old_place seen before t rest g s h) (λ h k. old_place (y ∷ seen) before t rest g h k)
    where
      all : List A
      all = before ++ rest

      later : same t y ≡ false → is_in same t before ≡ true
      later e = sym (ap (λ (b : Bool). b || is_in same t before) e) ∙ p

      split : (b : Bool) → good y ≡ b → (c : Bool) → is_in same y seen ≡ c → (d : Bool) → same t y ≡ d
          → (is_in same t before ≡ true → size_before same size t (used seen all) + size t ≤ total (used seen before))
          → ((same t y || is_in same t seen) ≡ false → is_in same t before ≡ true → size_before same size t (used (y ∷ seen) all) + size t ≤ total (used (y ∷ seen) before))
          → size_before same size t (used seen (y ∷ all)) + size t ≤ total (used seen (y ∷ before))
      split false e c f true k here there = differ (sym (sym g ∙ (ap good (equal t y k) ∙ e)))
      split false e c f false k here there =
          let a : size_before same size t (used seen (y ∷ all)) ≡ size_before same size t (used seen all) = ap (size_before same size t) (used_bad seen y all e) in
          let b : total (used seen (y ∷ before)) ≡ total (used seen before) = ap total (used_bad seen y before e) in omega (arith, a, b, here (later k))
      split true e true f true k here there = differ (sym (sym (ap (λ (z : A). is_in same z seen) (equal t y k) ∙ f) ∙ s))
      split true e true f false k here there =
          let a : size_before same size t (used seen (y ∷ all)) ≡ size_before same size t (used seen all) = ap (size_before same size t) (used_good seen y all e true f) in
          let b : total (used seen (y ∷ before)) ≡ total (used seen before) = ap total (used_good seen y before e true f) in omega (arith, a, b, here (later k))
      split true e false f true k here there =
          let a : size_before same size t (used seen (y ∷ all)) ≡ 0 = ap (size_before same size t) (used_good seen y all e false f) ∙ at_front t y (used (y ∷ seen) all) k in
          let b : total (used seen (y ∷ before)) ≡ size y + total (used (y ∷ seen) before) = ap total (used_good seen y before e false f) in
          let z : size t ≡ size y = ap size (equal t y k) in omega (arith, a, b, z)
      split true e false f false k here there =
          let a : size_before same size t (used seen (y ∷ all)) ≡ size y + size_before same size t (used (y ∷ seen) all) =
          ap (size_before same size t) (used_good seen y all e false f) ∙ behind t y (used (y ∷ seen) all) k in
          let b : total (used seen (y ∷ before)) ≡ size y + total (used (y ∷ seen) before) = ap total (used_good seen y before e false f) in
          omega (arith, a, b, there (ap (λ (x : Bool). x || is_in same t seen) k ∙ s) (later k))

  -- ---- the sizes with one more
  good_more : (xs : List A) (t : A) → good_ones good (xs ++ (t ∷ [])) ≡ good_ones good xs ++ (if good t then (t ∷ []) else [])
  unfolding good_ones
  good_more [] t = refl
  good_more (x ∷ xs) t = go (good x) (good_more xs t) where
    go : (b : Bool) → good_ones good (xs ++ (t ∷ [])) ≡ good_ones good xs ++ (if good t then (t ∷ []) else [])
        → (if b then (x ∷ good_ones good (xs ++ (t ∷ []))) else good_ones good (xs ++ (t ∷ []))) ≡ (if b then (x ∷ good_ones good xs) else good_ones good xs) ++ (if good t then (t ∷ []) else [])
    go true e = ap (λ (l : List A). x ∷ l) e
    go false e = e

  in_good : (xs : List A) (t : A) → good t ≡ true → is_in same t (good_ones good xs) ≡ is_in same t xs
  unfolding good_ones is_in
  in_good [] t g = refl
  in_good (x ∷ xs) t g = go (good x) refl (in_good xs t g) where
    not_same : (d : Bool) → same t x ≡ d → good x ≡ false → is_in same t xs ≡ (d || is_in same t xs)
    not_same true k e = differ (sym (sym g ∙ (ap good (equal t x k) ∙ e)))
    not_same false k e = refl

    go : (b : Bool) → good x ≡ b → is_in same t (good_ones good xs) ≡ is_in same t xs → is_in same t (if b then (x ∷ good_ones good xs) else good_ones good xs) ≡ (same t x || is_in same t xs)
    go true e more = ap (λ (b : Bool). same t x || b) more
    go false e more = more ∙ not_same (same t x) refl e

  total_more : (xs ys : List A) → total (xs ++ ys) ≡ total xs + total ys
  unfolding total
  total_more [] ys = omega arith
  total_more (x ∷ xs) ys = omega (arith, total_more xs ys)

  pub used_plain : (xs : List A) (t : A) → good t ≡ false → used [] (xs ++ (t ∷ [])) ≡ used [] xs
  used_plain xs t e = ap (firsts_after same []) (good_more xs t ∙ (ap (λ (b : Bool). good_ones good xs ++ (if b then (t ∷ []) else [])) e ∙ append-nil (good_ones good xs)))

  pub total_bad : (xs : List A) (t : A) → good t ≡ false → total (used [] (xs ++ (t ∷ []))) ≡ total (used [] xs)
  total_bad xs t e = ap total (used_plain xs t e)

  module _ (xs : List A) (t : A) (g : good t ≡ true) where
    one_good : good_ones good (xs ++ (t ∷ [])) ≡ good_ones good xs ++ (t ∷ [])
    one_good = good_more xs t ∙ ap (λ (b : Bool). good_ones good xs ++ (if b then (t ∷ []) else [])) g

    pub used_again : is_in same t xs ≡ true → used [] (xs ++ (t ∷ [])) ≡ used [] xs
    used_again e = ap (firsts_after same []) one_good ∙ firsts_old same equal (good_ones good xs) t (in_good xs t g ∙ e)

    pub used_first : is_in same t xs ≡ false → used [] (xs ++ (t ∷ [])) ≡ used [] xs ++ (t ∷ [])
    used_first e = ap (firsts_after same []) one_good ∙ firsts_new same equal (good_ones good xs) t (in_good xs t g ∙ e)

    pub total_old : is_in same t xs ≡ true → total (used [] (xs ++ (t ∷ []))) ≡ total (used [] xs)
    total_old e = ap total (used_again e)

    pub total_new : is_in same t xs ≡ false → total (used [] (xs ++ (t ∷ []))) ≡ total (used [] xs) + size t
    unfolding total
    total_new e = let one : size t + 0 ≡ size t = omega arith in
        ap total (used_first e) ∙ (total_more (used [] xs) (t ∷ []) ∙ ap (λ (n : ℕ). total (used [] xs) + n) one)
