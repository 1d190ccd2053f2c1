-- The last of some numbers that is good. Assumes nothing.
use Rattle.numbers.{proofs.Prelude.{ℕ, zero, suc, ◌≤◌, ◌<◌, eqb-true, eqb-false, eqb, Bool, true, false, ◌≡◌, refl, sym, ap, ◌∙◌, arith}, specs.Answer.{if◌then◌else◌}}
use Rattle.notes.specs.Chains.Chains.{last_with}

pub never : {A : Type 0} → true ≡ false → A
never e = let z : ◌≡◌ {A = ℕ} 0 1 = cc in absurd (omega arith)

-- what holds of each below a number, and of it, holds of each below the next
pub below_next : (P : ℕ → Type 0) (n : ℕ) → ((i : ℕ) → i < n → P i) → P n → (i : ℕ) → i < suc n → P i
below_next P n below here i h = go (eqb i n) refl where
  go : (t : Bool) → eqb i n ≡ t → P i
  go true e = rw (eqb-true i n e) here
  go false e = let not = eqb-false i n e in below i (omega (arith, h, not))

module _ (good : ℕ → Bool) where
  pub last_in : (n : ℕ) → good n ≡ true → last_with good (suc n) ≡ suc n
  unfolding last_with
  last_in n e = rw e

  pub last_out : (n : ℕ) → good n ≡ false → last_with good (suc n) ≡ last_with good n
  unfolding last_with
  last_out n e = rw e

  pub last_most : (n : ℕ) → last_with good n ≤ n
  unfolding last_with
  last_most zero = omega arith
  last_most (suc n) = go (good n) (last_most n) where
    go : (t : Bool) → last_with good n ≤ n → (if t then suc n else last_with good n) ≤ suc n
    go true h = omega arith
    go false h = omega (arith, h)

  -- what is found is good
  pub last_good : (n found : ℕ) → last_with good n ≡ suc found → good found ≡ true
  unfolding last_with
  last_good zero found e = absurd (omega (arith, e))
  last_good (suc n) found e = go (good n) refl e (last_good n found) where
    go : (t : Bool) → good n ≡ t → (if t then suc n else last_with good n) ≡ suc found → (last_with good n ≡ suc found → good found ≡ true) → good found ≡ true
    go true g e more = let same : n ≡ found = omega (arith, e) in ap good (sym same) ∙ g
    go false g e more = more e

  -- where none is found, none is good
  pub last_none : (n : ℕ) → last_with good n ≡ 0 → (i : ℕ) → i < n → good i ≡ false
  unfolding last_with
  last_none zero e i h = absurd (omega arith)
  last_none (suc n) e i h = go (good n) refl e (last_none n) i h where
    go : (t : Bool) → good n ≡ t → (if t then suc n else last_with good n) ≡ 0 → (last_with good n ≡ 0 → (i : ℕ) → i < n → good i ≡ false) → (i : ℕ) → i < suc n → good i ≡ false
    go true g e more i h = absurd (omega (arith, e))
    go false g e more i h = below_next (λ (i : ℕ). good i ≡ false) n (more e) g i h

  pub none_last : (n : ℕ) → ((i : ℕ) → i < n → good i ≡ false) → last_with good n ≡ 0
  unfolding last_with
  none_last zero none = refl
  none_last (suc n) none = rw (none n (omega arith)) (none_last n (λ i h. none i (omega arith)))

pub last_agree : (f g : ℕ → Bool) (n : ℕ) → ((i : ℕ) → i < n → f i ≡ g i) → last_with f n ≡ last_with g n
unfolding last_with
last_agree f g zero same = refl
last_agree f g (suc n) same = rw (same n (omega arith), last_agree f g n (λ i h. same i (omega arith)))

-- between the last of more and the end there is none of fewer
pub last_within : (few more : ℕ → Bool) → ((i : ℕ) → few i ≡ true → more i ≡ true) → (n : ℕ) → last_with few (last_with more n) ≡ last_with few n
unfolding last_with
last_within few more each zero = refl
last_within few more each (suc n) = go (more n) refl (few n) refl (last_within few more each n) where
  go : (t : Bool) → more n ≡ t → (s : Bool) → few n ≡ s → last_with few (last_with more n) ≡ last_with few n
      → last_with few (if t then suc n else last_with more n) ≡ (if s then suc n else last_with few n)
  go true e s f next = rw f
  go false e true f next = never (sym (each n f) ∙ e)
  go false e false f next = next
