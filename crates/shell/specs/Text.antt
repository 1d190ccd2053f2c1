-- Texts as bytes.
use Rattle.numbers.specs.Prelude.{ℕ, List}
use Prim.Native.{Char.{code}, String.{String, [], ◌∷◌}}
use mathlib.Core.List as L

-- the bytes of a text of ASCII
unfoldable pub bytes : String → List ℕ
bytes [] = L.[]
bytes (letter ∷ text) = L.◌∷◌ (code letter) (bytes text)
