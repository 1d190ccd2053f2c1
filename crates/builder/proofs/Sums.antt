-- The sum of the lengths that are left. Assumes nothing.
use Rattle.numbers.proofs.Prelude.{ℕ, suc, ◌+◌, ◌<◌, length, drop, get_or, drop-cons, List, ◌≡◌, ap}
use Rattle.builder.specs.Yards.{sum_of}

pub sum_next : (lengths : List ℕ) (i : ℕ) → i < length lengths → sum_of (drop i lengths) ≡ get_or lengths i 0 + sum_of (drop (suc i) lengths)
unfolding sum_of
sum_next lengths i more = ap sum_of (drop-cons lengths i 0 more)
