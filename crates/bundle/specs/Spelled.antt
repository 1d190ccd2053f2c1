-- The bytes of a name in two parts under a mask.
use Rattle.std.specs.Prelude.{◌++◌, map, bit_xor}
use Rattle.numbers.specs.Prelude.{ℕ, List}

abbrev pub spelled : ℕ → List ℕ → List ℕ → List ℕ
spelled mask prefix id = map (λ byte. bit_xor byte mask) (prefix ++ id)
