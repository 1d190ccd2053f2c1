-- A sum that stays within a bound, length by length. Assumes nothing.
use Rattle.numbers.proofs.Prelude.{ℕ, ◌+◌, ◌-◌, ◌≤◌, ◌<◌, length, get_or, List, ◌≡◌, subst, arith}
use Rattle.build.proofs.Rooms.{Summing, sum_starts, sum_room, sum_goes, sum_ends}
use Rattle.builder.specs.Yards.{sum_of}
use Rattle.edit.specs.inner.Changing.Sum.{SumsTo}
use Rattle.std.specs.Prelude.{Option, Some, None}

pub record Bounded (lengths : List ℕ) (most sum i : ℕ) : Type 0 where
  pub sums : Summing lengths sum i
  pub inside : sum ≤ most

pub bounded_starts : (lengths : List ℕ) (most : ℕ) → Bounded lengths most 0 0
bounded_starts lengths most = record { sums = sum_starts lengths; inside = omega arith }

module _ (lengths : List ℕ) (most sum i : ℕ) (b : Bounded lengths most sum i) where
  module _ (more : i < length lengths) where
    pub bounded_over : most - sum < get_or lengths i 0 → SumsTo lengths most None
    unfolding SumsTo
    bounded_over h = omega (arith, h, b.inside, sum_room lengths sum i b.sums more)

    pub bounded_goes : get_or lengths i 0 ≤ most - sum → Bounded lengths most (sum + get_or lengths i 0) (i + 1)
    bounded_goes h = record { sums = sum_goes lengths sum i b.sums more; inside = omega (arith, h, b.inside) }

  pub bounded_ends : length lengths ≤ i → SumsTo lengths most (Some sum)
  unfolding SumsTo
  bounded_ends h = let e : sum ≡ sum_of lengths = sum_ends lengths sum i b.sums h in (e, omega (arith, e, b.inside))

-- ---- what a sum was told to be
module _ (lengths : List ℕ) (most : ℕ) where
  pub sum_within_told : (r : Option ℕ) → SumsTo lengths most r → (sum : ℕ) → r ≡ Some sum → (sum ≡ sum_of lengths) × (sum_of lengths ≤ most)
  unfolding SumsTo
  sum_within_told r s sum e = subst (SumsTo lengths most) e s

  pub sum_over_told : (r : Option ℕ) → SumsTo lengths most r → r ≡ None → most < sum_of lengths
  unfolding SumsTo
  sum_over_told r s e = subst (SumsTo lengths most) e s
