-- The last index of which a test holds: found from above, or between two bounds. Assumes nothing.
use Rattle.numbers.{proofs.Prelude.{ℕ, zero, suc, ◌+◌, ◌-◌, ◌≤◌, ◌<◌, le-leb, ltb-true, lt-leb, ltb-false, ltb, leb, Bool, true, false, ◌≡◌, refl, sym, arith}, specs.Answer.{if◌then◌else◌}}
use Rattle.tzif.specs.Times.{last_with}

module _ (holds : ℕ → Bool) where
  pub last_here : (n : ℕ) → 0 < n → holds (n - 1) ≡ true → n ≡ last_with n holds
  unfolding last_with
  last_here zero l e = absurd (omega arith)
  last_here (suc m) l e = let same : suc m - 1 ≡ m = omega arith in rw (rw same at e) refl

  pub last_below : (n : ℕ) → 0 < n → holds (n - 1) ≡ false → last_with (n - 1) holds ≡ last_with n holds
  unfolding last_with
  last_below zero l e = absurd (omega arith)
  last_below (suc m) l e = let same : suc m - 1 ≡ m = omega arith in rw (rw same at e, same) refl

  pub last_none : (n : ℕ) → n ≤ 0 → n ≡ last_with n holds
  unfolding last_with
  last_none zero l = refl
  last_none (suc m) l = absurd (omega arith)

  -- what the last index means
  pub last_within : (n : ℕ) → last_with n holds ≤ n
  unfolding last_with
  last_within zero = omega arith
  last_within (suc m) = go (holds m) (last_within m) where
    go : (t : Bool) → last_with m holds ≤ m → (if t then suc m else last_with m holds) ≤ suc m
    go true l = omega arith
    go false l = omega arith

  pub last_holds : (n k : ℕ) → suc k ≡ last_with n holds → holds k ≡ true
  unfolding last_with
  last_holds zero k e = absurd (omega arith)
  last_holds (suc m) k e = go (holds m) refl e (last_holds m k) where
    go : (t : Bool) → holds m ≡ t → suc k ≡ (if t then suc m else last_with m holds) → (suc k ≡ last_with m holds → holds k ≡ true) → holds k ≡ true
    go true t e earlier = let same : k ≡ m = omega arith in rw same t
    go false t e earlier = earlier e

  pub last_fails : (n k : ℕ) → last_with n holds ≤ k → k < n → holds k ≡ false
  unfolding last_with
  last_fails zero k l h = absurd (omega arith)
  last_fails (suc m) k l h = go (holds m) refl (ltb k m) refl l (last_fails m k) where
    go : (t : Bool) → holds m ≡ t → (s : Bool) → ltb k m ≡ s → (if t then suc m else last_with m holds) ≤ k → (last_with m holds ≤ k → k < m → holds k ≡ false) → holds k ≡ false
    go true t s e l earlier = absurd (omega arith)
    go false t true e l earlier = earlier l (ltb-true k m e)
    go false t false e l earlier = let same : k ≡ m = omega (arith, ltb-false k m e) in rw same t

  -- the test holds of the index before, and of none from there on
  pub last_is : (low n : ℕ) → low ≤ n → ((k : ℕ) → suc k ≡ low → holds k ≡ true) → ((k : ℕ) → low ≤ k → k < n → holds k ≡ false) → low ≡ last_with n holds
  unfolding last_with
  last_is low zero l h f = omega arith
  last_is low (suc m) l h f = go (ltb m low) refl (λ l'. last_is low m l' h (λ k a b. f k a (omega arith))) where
    go : (t : Bool) → ltb m low ≡ t → (low ≤ m → low ≡ last_with m holds) → low ≡ (if holds m then suc m else last_with m holds)
    go true e earlier = let same : suc m ≡ low = omega (arith, ltb-true m low e) in rw (h m same) (sym same)
    go false e earlier = let above : low ≤ m = ltb-false m low e in rw (f m above (omega arith)) (earlier above)

-- ---- between two bounds
-- what stands below `low` is not after the instant, what stands from `high` on is
pub record Narrowed (times : ℕ → ℕ) (n instant low high : ℕ) : Type 0 where
  pub order : low ≤ high
  pub top : high ≤ n
  pub before : (k : ℕ) → suc k ≡ low → times k ≤ instant
  pub after : (k : ℕ) → high ≤ k → k < n → instant < times k

pub widest : (times : ℕ → ℕ) (n instant : ℕ) → Narrowed times n instant 0 n
widest times n instant = record { order = omega arith; top = omega arith; before = λ k e. absurd (omega arith); after = λ k a b. absurd (omega arith) }

module _ {times : ℕ → ℕ} {n instant low high : ℕ} (s : Narrowed times n instant low high) where
  pub up : (middle : ℕ) → middle < high → times middle ≤ instant → Narrowed times n instant (middle + 1) high
  up middle l h = record { order = omega arith; top = s.top; before = λ k e. let same : k ≡ middle = omega arith in rw same h; after = s.after }

  pub down : ((i j : ℕ) → i < j → j < n → times i < times j) → (middle : ℕ) → low ≤ middle → middle < high → instant < times middle → Narrowed times n instant low middle
  down rises middle l g h = record { order = l; top = omega (arith, s.top); before = s.before; after = λ k a b. beyond k (ltb middle k) refl a b } where
    beyond : (k : ℕ) (t : Bool) → ltb middle k ≡ t → middle ≤ k → k < n → instant < times k
    beyond k true e a b = omega (arith, rises middle k (ltb-true middle k e) b)
    beyond k false e a b = let same : middle ≡ k = omega (arith, ltb-false middle k e) in rw (← same) h

  pub narrow : high ≤ low → low ≡ last_with n (λ i. leb (times i) instant)
  narrow l =
      last_is (λ i. leb (times i) instant) low n (omega (arith, s.order, s.top)) (λ k e. le-leb (times k) instant (s.before k e))
      (λ k a b. lt-leb (times k) instant (s.after k (omega (arith, s.order)) b))

-- two tests that say the same
pub last_same : (holds holds' : ℕ → Bool) (n : ℕ) → ((k : ℕ) → k < n → holds k ≡ holds' k) → last_with n holds ≡ last_with n holds'
unfolding last_with
last_same holds holds' zero e = refl
last_same holds holds' (suc m) e = rw (e m (omega arith), last_same holds holds' m (λ k l. e k (omega arith))) refl
