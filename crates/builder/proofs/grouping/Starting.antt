-- Where texts begin. Assumes nothing.
use Rattle.numbers.proofs.Prelude.{ℕ, suc, ◌+◌, ◌^◌, ◌≤◌, ◌<◌, length, drop, get_or, set, drop-cons, drop-length, List, [], ◌∷◌, ◌++◌, append-nil, ◌≡◌, sym, ap, subst, ◌∙◌, add-one, arith}
use Rattle.writer.{proofs.Stores.{Left, left_all, left_step, left_none, stored_one, stored_front}, specs.inner.Stored.{Stored}}
use Rattle.builder.specs.{Grouping.Items.{starts_from}, Yards.{sum_of}}
use Rattle.builder.proofs.{Sums.{sum_next}, grouping.Meant.{starts_many}}

pub record Starting (before lengths now : List ℕ) (at i : ℕ) : Type 0 where
  pub index : i ≤ length lengths
  pub room : length before ≡ length lengths + 1
  pub bound : at + sum_of (drop i lengths) < 2 ^ 32
  pub left : Left before 0 (starts_from 0 lengths) now i (starts_from at (drop i lengths))

pub start_starts : (before lengths : List ℕ) → length before ≡ length lengths + 1 → sum_of lengths < 2 ^ 32 → Starting before lengths before 0 0
start_starts before lengths e h = record { index = omega arith; room = e; bound = omega arith; left = left_all }

module _ (before lengths now : List ℕ) (at i : ℕ) (c : Starting before lengths now at i) where
  module _ (h : i < length lengths) where
    rest : drop i lengths ≡ get_or lengths i 0 ∷ drop (suc i) lengths
    rest = drop-cons lengths i 0 h

    pub start_sum : at + get_or lengths i 0 + sum_of (drop (suc i) lengths) < 2 ^ 32
    start_sum = omega (arith, c.bound, sum_next lengths i h)

    pub start_goes : Starting before lengths (set now i at) (at + get_or lengths i 0) (i + 1)
    unfolding starts_from
    start_goes =
        record {
          index = omega arith;
          room = c.room;
          bound = rw (add-one i) start_sum;
          left = left_step (at ∷ [])
              (subst (λ (r : List ℕ). Left before 0 (starts_from 0 lengths) now i r) (ap (starts_from at) (rest ∙ ap (λ (n : ℕ). get_or lengths i 0 ∷ drop n lengths) (sym (add-one i))))
              c.left) (stored_one now i at);
        }

  pub start_inside : i < length now
  start_inside = omega (arith, c.index, c.room, c.left.size)

  pub start_ends : length lengths ≤ i → set now i at ≡ starts_from 0 lengths
  unfolding starts_from
  start_ends h = let e : i ≡ length lengths = omega (arith, c.index) in
      let none : drop i lengths ≡ [] = ap (λ (n : ℕ). drop n lengths) e ∙ drop-length lengths in
      let size : length (starts_from 0 lengths) ≡ suc (length lengths) = starts_many 0 lengths in
      let all : length (starts_from 0 lengths) ≡ length before = omega (arith, size, c.room) in
      let s : Stored before 0 (starts_from 0 lengths) (set now i at) (i + 1) = left_none (left_step (at ∷ []) (subst (λ (r : List ℕ). Left before 0 (starts_from 0 lengths) now i r)
      (ap (starts_from at) none) c.left) (stored_one now i at)) in
      stored_front before (starts_from 0 lengths) (set now i at) (i + 1) s (omega (arith, all)) ∙ ap (λ (n : ℕ). starts_from 0 lengths ++ drop n before) all
      ∙ ap (λ (xs : List ℕ). starts_from 0 lengths ++ xs) (drop-length before) ∙ append-nil (starts_from 0 lengths)
