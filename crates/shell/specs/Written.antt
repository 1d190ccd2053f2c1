-- S-4: what is written for an input, and the exit status.
use Rattle.numbers.specs.Prelude.{ℕ, List, []}
use Rattle.std.specs.Prelude.{max, ◌∷◌, ◌++◌}
use Rattle.shell.specs.{Answer.{slip_for, line_for, fault_for}, Requests.{requests}}

module _ (map zones : List ℕ) where
  -- the lines of requests, one behind the other
  unfoldable pub lines_of : List (List ℕ) → List ℕ
  lines_of [] = []
  lines_of (request ∷ more) = line_for (slip_for request map zones) ++ lines_of more

  -- 0 where all were stamped, 1 where one was not
  unfoldable pub worst : List (List ℕ) → ℕ
  worst [] = 0
  worst (request ∷ more) = max (fault_for (slip_for request map zones)) (worst more)

  unfoldable pub written : List ℕ → List ℕ
  written input = lines_of (requests input)

  unfoldable pub status_of : List ℕ → ℕ
  status_of input = worst (requests input)
