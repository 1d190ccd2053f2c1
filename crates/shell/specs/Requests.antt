-- S-4: the requests of an input. A line is what ends with LF or with the input.
use Rattle.std.specs.Prelude.{if◌then◌else◌, ◌∷◌, ◌++◌}
use Rattle.numbers.specs.Prelude.{ℕ, eqb, List, []}

-- at the input's end a line that has begun is a request
unfoldable pub last : List ℕ → List (List ℕ)
last [] = []
last (byte ∷ line) = (byte ∷ line) ∷ []

-- after what stands of a line already
unfoldable pub requests_from : List ℕ → List ℕ → List (List ℕ)
requests_from line [] = last line
requests_from line (byte ∷ bytes) = if eqb byte 10 then (line ∷ requests_from [] bytes) else requests_from (line ++ (byte ∷ [])) bytes

unfoldable pub requests : List ℕ → List (List ℕ)
requests input = requests_from [] input
