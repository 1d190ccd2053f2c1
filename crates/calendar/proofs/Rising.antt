-- A count that never falls. Assumes nothing.
use Rattle.numbers.proofs.Prelude.{ℕ, zero, suc, ◌+◌, ◌-◌, ◌≤◌, ◌<◌, ltb-true, ltb-false, ltb, Bool, true, false, ◌≡◌, refl, subst, le_refl, le_trans, add-zero, arith}
use native.Mathlib.Nat.{add-suc}

module _ (f : ℕ → ℕ) (up : (n : ℕ) → f n ≤ f (suc n)) where
  later : (n d : ℕ) → f n ≤ f (n + d)
  later n zero = rw add-zero (le_refl (f n))
  later n (suc d) = rw add-suc (le_trans (later n d) (up (n + d)))

  pub rises : (n k : ℕ) → n ≤ k → f n ≤ f k
  rises n k h = subst (λ (m : ℕ). f n ≤ f m) (let e : n + (k - n) ≡ k = omega arith in e) (later n (k - n))

  -- a number lies between one step's two counts only
  pub between : (x a b : ℕ) → 1 ≤ a → 1 ≤ b → f (a - 1) ≤ x → x < f a → f (b - 1) ≤ x → x < f b → a ≡ b
  between x a b ha hb la ua lb ub = let never_below : a ≤ b - 1 → ⊥ = λ h. omega (arith, rises a (b - 1) h) in
      let not_above : b ≤ a - 1 → ⊥ = λ h. omega (arith, rises b (a - 1) h) in omega arith

-- a number between two steps of a sequence
pub record Between (f : ℕ → ℕ) (x : ℕ) : Type 0 where
  pub step : ℕ
  pub from : f step ≤ x
  pub to : x < f (suc step)

-- what begins at or before it and is past it at last, passes it at some step
pub passes : (f : ℕ → ℕ) (x k : ℕ) → f 0 ≤ x → x < f k → Between f x
passes f x zero h t = absurd (omega arith)
passes f x (suc k) h t = here (ltb x (f k)) (passes f x k h) refl where
  here : (b : Bool) → (x < f k → Between f x) → ltb x (f k) ≡ b → Between f x
  here true earlier e = earlier (ltb-true x (f k) e)
  here false earlier e = record { step = k; from = ltb-false x (f k) e; to = t }
