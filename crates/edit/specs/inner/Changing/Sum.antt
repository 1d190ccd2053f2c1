-- What the inner function that sums lengths says.
use Rattle.std.specs.Prelude.{Option, Some, None, ◌≤◌, ◌<◌, ◌≡◌}
use Rattle.numbers.specs.Prelude.{ℕ, List}
use Rattle.builder.specs.Yards.{sum_of}

-- the sum, or it is more than this
unfoldable pub SumsTo : List ℕ → ℕ → Option ℕ → Type 0
SumsTo lengths most (Some sum) = (sum ≡ sum_of lengths) × (sum_of lengths ≤ most)
SumsTo lengths most None = most < sum_of lengths
