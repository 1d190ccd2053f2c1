-- Bytes that stand in a lent buffer, and numbers as they are printed.
use Rattle.numbers.specs.Prelude.{ℕ, zero, suc, min, ltb, length, sets, cond, List, []}
use Rattle.std.specs.Prelude.{max, ◌+◌, ◌-◌, ◌/◌, ◌%◌, ◌^◌, ◌∷◌, ◌++◌, ◌≡◌}

-- the largest place; no buffer is longer
abbrev pub far : ℕ
far = 2 ^ 64 - 1

-- the bytes stand from a place on, as many as fit; the next place is the one behind all of them, as far as places go
pub record Put (before : List ℕ) (at : ℕ) (bytes after : List ℕ) (next : ℕ) : Type 0 where
  pub place_after : next ≡ max at (min (at + length bytes) (max far (length before)))
  pub stored : after ≡ sets before at bytes

-- the ASCII code of the last digit
abbrev pub digit : ℕ → ℕ
digit n = 48 + n % 10

-- up to so many digits and one, without zeros in front
unfoldable pub decimal_of : ℕ → ℕ → List ℕ
decimal_of zero n = digit n ∷ []
decimal_of (suc k) n = cond (ltb n 10) (digit n ∷ []) (decimal_of k (n / 10) ++ (digit n ∷ []))

-- a number of 64 bits in decimal digits
unfoldable pub decimal : ℕ → List ℕ
decimal n = decimal_of 19 n

-- its last two digits
abbrev pub two_digits : ℕ → List ℕ
two_digits n = digit (n / 10) ∷ digit n ∷ []
