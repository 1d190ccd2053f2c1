-- The first of equal ones, found among those that have one key: nothing is asked of a key but that equal ones share it. Assumes nothing.
use Rattle.numbers.{proofs.{Prelude.{ℕ, eqb-false, eqb, Bool, true, false, List, [], ◌∷◌, ◌≡◌, refl, sym, ap, ◌∙◌}, Tests.{fails}}, specs.Answer.{if◌then◌else◌}}
use Rattle.layout.{proofs.Orders.{sorted_kept}, specs.Order.{sorted_by, kept_by}}
use Rattle.builder.specs.Sharing.{first_with}

module _ {A : Type 0} (key : A → ℕ) where
  -- ---- the first good one has this key
  module _ (good : A → Bool) (other : A) (k : ℕ) (share : (x : A) → good x ≡ true → key x ≡ k) where
    first_by : (x : A) (xs : List A) (t : Bool) → eqb (key x) k ≡ t → first_with good other (kept_by key k xs) ≡ first_with good other xs
        → first_with good other (if t then (x ∷ kept_by key k xs) else kept_by key k xs) ≡ (if good x then x else first_with good other xs)
    unfolding first_with
    first_by x xs true e same = ap (λ (y : A). if good x then x else y) same
    first_by x xs false e same =
        same ∙ sym (ap (λ (b : Bool). if b then x else first_with good other xs) (fails (good x) (λ h. eqb-false (key x) k e (share x h))))

    pub first_kept : (xs : List A) → first_with good other (kept_by key k xs) ≡ first_with good other xs
    unfolding kept_by first_with
    first_kept [] = refl
    first_kept (x ∷ xs) = first_by x xs (eqb (key x) k) refl (first_kept xs)

    -- in the order of the keys the first is still the first that came
    pub first_sorted : (xs : List A) → first_with good other (sorted_by key xs) ≡ first_with good other xs
    first_sorted xs = sym (first_kept (sorted_by key xs)) ∙ (ap (first_with good other) (sorted_kept key k xs) ∙ first_kept xs)
