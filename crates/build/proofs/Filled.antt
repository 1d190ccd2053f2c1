-- One item over a whole list, place by place. Assumes nothing.
use Rattle.numbers.proofs.Prelude.{ℕ, zero, suc, ◌+◌, ◌≤◌, ◌<◌, length, drop, set, replicate, length-set, drop-length, List, [], ◌∷◌, ◌++◌, append-nil, ◌≡◌, refl, ap, ◌∙◌, add-one, arith}

module _ {A : Type 0} (x : A) where
  set_next : (l : List A) (i : ℕ) → i < length l → set (replicate i x ++ drop i l) i x ≡ replicate (suc i) x ++ drop (suc i) l
  set_next [] i h = absurd (omega arith)
  set_next (a ∷ l) zero h = refl
  set_next (a ∷ l) (suc i) h = ap (λ (r : List A). x ∷ r) (set_next l i (omega arith))

  -- the loop's invariant
  pub record Filled (before now : List A) (i : ℕ) : Type 0 where
    pub index : i ≤ length before
    pub size : length now ≡ length before
    pub is : now ≡ replicate i x ++ drop i before

  pub fill_starts : (before : List A) → Filled before before 0
  fill_starts before = record { index = omega arith; size = refl; is = refl }

  pub fill_goes : (before now : List A) (i : ℕ) → Filled before now i → i < length now → Filled before (set now i x) (i + 1)
  fill_goes before now i f h =
      rw (add-one i) (record {
        index = omega (arith, h, f.size);
        size = length-set now i x ∙ f.size;
        is = ap (λ (l : List A). set l i x) f.is ∙ set_next before i (omega (arith, h, f.size));
      })

  pub fill_ends : (before now : List A) (i : ℕ) → Filled before now i → length now ≤ i → now ≡ replicate (length before) x
  fill_ends before now i f h = let e : i ≡ length before = omega (arith, h, f.size, f.index) in
      f.is ∙ (ap (λ (n : ℕ). replicate n x ++ drop n before) e ∙ (ap (λ (l : List A). replicate (length before) x ++ l) (drop-length before) ∙ append-nil (replicate (length before) x)))
