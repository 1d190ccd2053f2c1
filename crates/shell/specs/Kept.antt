-- The requests that end in a piece of the input, as they are kept: of a line that is too long its front, which is as surely too long.
use Rattle.std.specs.Prelude.{if◌then◌else◌, ◌∷◌, ◌++◌}
use Rattle.numbers.specs.Prelude.{ℕ, eqb, take, List, []}

-- a request of 255 bytes, a line end of two, and one byte more
abbrev pub most : ℕ
most = 258

-- a line with one byte more
unfoldable pub push : List ℕ → ℕ → List ℕ
push line byte = take most (line ++ (byte ∷ []))

-- the requests whose line ends in the bytes, after what stands of a line already
unfoldable pub ended : List ℕ → List ℕ → List (List ℕ)
ended line [] = []
ended line (byte ∷ bytes) = if eqb byte 10 then (line ∷ ended [] bytes) else ended (push line byte) bytes

-- what then stands of the line that has not ended
unfoldable pub left : List ℕ → List ℕ → List ℕ
left line [] = line
left line (byte ∷ bytes) = if eqb byte 10 then left [] bytes else left (push line byte) bytes
