-- A list that is written item by item, each by its number. Assumes nothing.
use Rattle.numbers.proofs.Prelude.{ℕ, zero, suc, ◌+◌, ◌-◌, ◌≤◌, ◌<◌, length, drop, set, length-map, drop-length, List, [], ◌∷◌, ◌++◌, map, append-nil, ◌≡◌, refl, ap, subst, ◌∙◌, add-one, arith}
use Rattle.writer.{proofs.Stores.{Left, left_all, left_step, left_none, stored_one, stored_front}, specs.inner.Stored.{Stored}}
use Rattle.builder.specs.Grouping.Keys.{numbers_from}

pub numbers_many : (i n : ℕ) → length (numbers_from i n) ≡ n
unfolding numbers_from
numbers_many i zero = refl
numbers_many i (suc n) = ap suc (numbers_many (suc i) n)

module _ (word : ℕ → ℕ) where
  pub record Listing (before now : List ℕ) (i : ℕ) : Type 0 where
    pub index : i ≤ length before
    pub left : Left before 0 (map word (numbers_from 0 (length before))) now i (map word (numbers_from i (length before - i)))

  pub list_starts : (before : List ℕ) → Listing before before 0
  list_starts before = let e : length before - 0 ≡ length before = omega arith in record { index = omega arith; left = rw e left_all }

  module _ (before now : List ℕ) (i : ℕ) (c : Listing before now i) where
    pub list_goes : i < length now → (w : ℕ) → w ≡ word i → Listing before (set now i w) (i + 1)
    unfolding numbers_from
    list_goes h w e =
        let more : length before - i ≡ suc (length before - (i + 1)) = omega (arith, h, c.left.size) in
        let cut : map word (numbers_from i (length before - i)) ≡ (w ∷ []) ++ map word (numbers_from (i + 1) (length before - (i + 1))) =
        ap (λ (n : ℕ). map word (numbers_from i n)) more ∙ rw (e, add-one i) in
        record {
          index = omega (arith, h, c.left.size);
          left = left_step (w ∷ []) (subst (λ (r : List ℕ). Left before 0 (map word (numbers_from 0 (length before))) now i r) cut c.left)
              (stored_one now i w);
        }

    pub list_ends : length now ≤ i → now ≡ map word (numbers_from 0 (length before))
    unfolding numbers_from
    list_ends h = let none : length before - i ≡ 0 = omega (arith, c.left.size) in
        let s : Stored before 0 (map word (numbers_from 0 (length before))) now i = left_none (subst (λ (n : ℕ). Left before 0 (map word (numbers_from 0 (length before)))
        now i (map word (numbers_from i n))) none c.left) in
        let size : length (map word (numbers_from 0 (length before))) ≡ length before = length-map (numbers_from 0 (length before)) word ∙ numbers_many 0 (length before) in
        stored_front before (map word (numbers_from 0 (length before))) now i s (omega (arith, size)) ∙ ap (λ (n : ℕ). map word (numbers_from 0 (length before)) ++ drop n before) size
        ∙ ap (λ (xs : List ℕ). map word (numbers_from 0 (length before)) ++ xs) (drop-length before) ∙ append-nil (map word (numbers_from 0 (length before)))
