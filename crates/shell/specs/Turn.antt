-- What a turn takes from a piece of the input, and what it writes.
use Rattle.std.specs.Prelude.{◌+◌, ◌≤◌, ◌<◌, ◌∷◌, ◌++◌, ◌≡◌}
use Rattle.numbers.specs.Prelude.{ℕ, Bool, true, false, length, take, drop, List, []}
use Rattle.shell.specs.{Answer.{Rooms, line_room}, Kept.{most, ended, left}, Written.{lines_of, worst}, declared.{gather.Step.{Step}, turn.Turn.{Turn}}}

-- from a piece, a place in it and a line so far: the requests that ended, the next place, and the line so far there
pub record Took (chunk : List ℕ) (from : ℕ) (line : List ℕ) (done : List (List ℕ)) (next : ℕ) (line' : List ℕ) : Type 0 where
  pub requests : ended line (drop from chunk) ≡ done ++ ended line' (drop next chunk)
  pub rest : left line (drop from chunk) ≡ left line' (drop next chunk)

-- a line that has ended is a request, and the next begins empty
unfoldable pub done_of : Bool → List ℕ → List (List ℕ)
done_of false line = []
done_of true line = line ∷ []

unfoldable pub rest_of : Bool → List ℕ → List ℕ
rest_of false line = line
rest_of true line = []

pub record Gathered (chunk : List ℕ) (from : ℕ) (line space : List ℕ) (step : Step) : Type 0 where
  pub within : step.next ≤ length chunk
  pub onward : from < length chunk → from < step.next
  pub fits : step.used ≤ most
  pub kept : length space ≡ most
  pub took : Took chunk from line (done_of step.ended (take step.used space)) step.next (rest_of step.ended (take step.used space))

-- requests ended, and what is in the output is their lines and nothing else
pub record Turned (chunk : List ℕ) (from : ℕ) (line space map zones hits text out : List ℕ) (turn : Turn) : Type 0 where
  pub done : List (List ℕ)
  pub within : turn.next ≤ length chunk
  pub onward : from < length chunk → from < turn.next
  pub fits : turn.used ≤ most
  pub kept : length space ≡ most
  pub rooms : Rooms hits text out
  pub takes : turn.size ≤ line_room + 1
  pub took : Took chunk from line done turn.next (take turn.used space)
  pub lines : take turn.size out ≡ lines_of map zones done
  pub faults : turn.fault ≡ worst map zones done
