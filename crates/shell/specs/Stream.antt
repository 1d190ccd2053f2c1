-- What is left behind a piece of the input, and the exit status so far.
use Rattle.numbers.specs.Prelude.{ℕ, length, take, List}
use Rattle.std.specs.Prelude.{max, ◌≤◌, ◌≡◌}
use Rattle.shell.specs.{Answer.{Rooms}, Kept.{most, ended, left}, Requests.{last}, Written.{worst}, declared.stream.State.{State}}

-- unless the status is 2, the line so far is what the piece leaves, and the status is 1 where a request of it was not stamped
pub record Served (chunk line : List ℕ) (status : ℕ) (map zones space hits text out : List ℕ) (state : State) : Type 0 where
  pub fits : state.used ≤ most
  pub kept : length space ≡ most
  pub rooms : Rooms hits text out
  pub rest : (state.status ≡ 2 → ⊥) → take state.used space ≡ left line chunk
  pub faults : (state.status ≡ 2 → ⊥) → state.status ≡ max status (worst map zones (ended line chunk))

-- what has to hold of the room between pieces
pub record Ready (space hits text out : List ℕ) (used : ℕ) : Type 0 where
  pub fits : used ≤ most
  pub kept : length space ≡ most
  pub rooms : Rooms hits text out

-- at the input's end
pub record Finished (line : List ℕ) (status : ℕ) (map zones : List ℕ) (answer : ℕ) : Type 0 where
  pub faults : (answer ≡ 2 → ⊥) → answer ≡ max status (worst map zones (last line))
