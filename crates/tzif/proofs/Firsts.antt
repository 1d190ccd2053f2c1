-- The first index of which a test holds, found from below. Assumes nothing.
use Rattle.numbers.{proofs.Prelude.{ℕ, zero, suc, ◌+◌, ◌≤◌, ◌<◌, le-ltb, ltb-true, ltb-false, ltb, Bool, true, false, ◌≡◌, refl, sym, ap, ◌∙◌, add-one, arith}, specs.Answer.{if◌then◌else◌}}
use Rattle.tzif.specs.Text.{first_with}

module _ (holds : ℕ → Bool) where
  pub none_yet : first_with 0 holds ≡ 0
  unfolding first_with
  none_yet = refl

  pub not_here : (i : ℕ) → first_with i holds ≡ i → holds i ≡ false → first_with (i + 1) holds ≡ i + 1
  unfolding first_with
  not_here i e h = rw (add-one i, e, le-ltb i i (omega arith), h) refl

  pub here : (i : ℕ) → first_with i holds ≡ i → holds i ≡ true → (n : ℕ) → i < n → i ≡ first_with n holds
  unfolding first_with
  here i e h zero l = absurd (omega arith)
  here i e h (suc m) l = go (ltb i m) refl (here i e h m) where
    go : (t : Bool) → ltb i m ≡ t → (i < m → i ≡ first_with m holds) → i ≡ (if ltb (first_with m holds) m then first_with m holds else (if holds m then m else suc m))
    go true t earlier = rw (← earlier (ltb-true i m t), t) refl
    go false t earlier = let same : i ≡ m = omega (arith, ltb-false i m t) in rw (← same, e, le-ltb i i (omega arith), h) refl

  pub first_within : (n : ℕ) → first_with n holds ≤ n
  unfolding first_with
  first_within zero = omega arith
  first_within (suc m) = go (ltb (first_with m holds) m) (holds m) (first_within m) where
    go : (s t : Bool) → first_with m holds ≤ m → (if s then first_with m holds else (if t then m else suc m)) ≤ suc m
    go true t l = omega arith
    go false true l = omega arith
    go false false l = omega arith

  -- where the test holds somewhere, the first such index is inside, and the test holds of it
  pub first_before : (n k : ℕ) → k < n → holds k ≡ true → first_with n holds < n
  unfolding first_with
  first_before zero k l h = absurd (omega arith)
  first_before (suc m) k l h = go (ltb (first_with m holds) m) refl (holds m) refl (ltb k m) refl (first_within m) (first_before m k) where
    go : (s : Bool) → ltb (first_with m holds) m ≡ s → (t : Bool) → holds m ≡ t → (u : Bool) → ltb k m ≡ u → first_with m holds ≤ m → (k < m → holds k ≡ true → first_with m holds < m)
        → (if s then first_with m holds else (if t then m else suc m)) < suc m
    go true s t e u f w earlier = omega (arith, ltb-true (first_with m holds) m s)
    go false s true e u f w earlier = omega arith
    go false s false e true f w earlier = absurd (omega (arith, ltb-false (first_with m holds) m s, earlier (ltb-true k m f) h))
    go false s false e false f w earlier = let same : k ≡ m = omega (arith, ltb-false k m f) in let both : true ≡ false = sym h ∙ ap holds same ∙ e in
        let no : ◌≡◌ {A = ℕ} 0 1 = cc in absurd (omega arith)

  pub first_holds : (n : ℕ) → first_with n holds < n → holds (first_with n holds) ≡ true
  unfolding first_with
  first_holds zero l = absurd (omega arith)
  first_holds (suc m) l = go (ltb (first_with m holds) m) refl (holds m) refl l (first_holds m) where
    go : (s : Bool) → ltb (first_with m holds) m ≡ s → (t : Bool) → holds m ≡ t → (if s then first_with m holds else (if t then m else suc m)) < suc m
        → (first_with m holds < m → holds (first_with m holds) ≡ true) → holds (if s then first_with m holds else (if t then m else suc m)) ≡ true
    go true s t e l earlier = earlier (ltb-true (first_with m holds) m s)
    go false s true e l earlier = e
    go false s false e l earlier = absurd (omega arith)
