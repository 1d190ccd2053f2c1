-- Lengths taken away from a sum, one by one. Assumes nothing.
use Rattle.numbers.proofs.Prelude.{ℕ, ◌+◌, ◌-◌, ◌≤◌, ◌<◌, eq-eqb, ne_eqb, eqb-true, eqb-false, eqb, length, drop, get_or, drop-length, Bool, true, false, List, ◌≡◌, refl, sym, ap, ◌∙◌, add-one, arith}
use Rattle.builder.{proofs.Sums.{sum_next}, specs.Yards.{sum_of}}

-- the loop's invariant
pub record Taking (lengths : List ℕ) (sum left i : ℕ) : Type 0 where
  pub index : i ≤ length lengths
  pub same : sum + sum_of (drop i lengths) ≡ left + sum_of lengths

pub take_starts : (lengths : List ℕ) (sum : ℕ) → Taking lengths sum sum 0
take_starts lengths sum = record { index = omega arith; same = omega arith }

module _ (lengths : List ℕ) (sum left i : ℕ) (t : Taking lengths sum left i) where
  module _ (more : i < length lengths) where
    pub take_goes : get_or lengths i 0 ≤ left → Taking lengths sum (left - get_or lengths i 0) (i + 1)
    take_goes h = rw (add-one i) (record { index = omega (arith, more); same = omega (arith, h, sum_next lengths i more, t.same) })

    pub take_stops : left < get_or lengths i 0 → false ≡ eqb (sum_of lengths) sum
    take_stops h = sym (ne_eqb (sum_of lengths) sum (λ e. omega (arith, h, sum_next lengths i more, t.same, e)))

  pub take_ends : length lengths ≤ i → eqb left 0 ≡ eqb (sum_of lengths) sum
  unfolding sum_of
  take_ends h = let e : i ≡ length lengths = omega (arith, t.index, h) in
      let none : sum_of (drop i lengths) ≡ 0 = ap sum_of (ap (λ (k : ℕ). drop k lengths) e ∙ drop-length lengths) in go (eqb left 0) refl none where
        go : (b : Bool) → eqb left 0 ≡ b → sum_of (drop i lengths) ≡ 0 → b ≡ eqb (sum_of lengths) sum
        go true f none = sym (eq-eqb (sum_of lengths) sum (omega (arith, eqb-true left 0 f, none, t.same)))
        go false f none = sym (ne_eqb (sum_of lengths) sum (λ e. eqb-false left 0 f (omega (arith, none, t.same, e))))
