-- Texts in the file, which end at a NUL or a newline; and a text at the start of a lent one.
use Rattle.std.specs.Prelude.{if◌then◌else◌, ◌+◌, ◌≤◌, ◌||◌, ◌≡◌}
use Rattle.numbers.specs.Prelude.{ℕ, zero, suc, eqb, ltb, take, drop, Bool, List}
use Rattle.tzif.specs.Number.{octet}

-- the first index below a number of which the test holds; the number where there is none
unfoldable pub first_with : ℕ → (ℕ → Bool) → ℕ
first_with zero holds = 0
first_with (suc n) holds = if ltb (first_with n holds) n then first_with n holds else (if holds n then n else suc n)

-- a NUL, or one other octet
unfoldable pub is_stop : ℕ → ℕ → Bool
is_stop other byte = eqb byte 0 || eqb byte other

-- how many octets from a place on, of so many at most, stand before a stop
unfoldable pub run_to : ℕ → List ℕ → ℕ → ℕ → ℕ
run_to other file from most = first_with most (λ k. is_stop other (octet file (from + k)))

-- the code's number is this one, and no more than that
pub record AtMost (most r n : ℕ) : Type 0 where
  pub same : r ≡ n
  pub within : r ≤ most

-- so many octets from a place on
abbrev pub slice : List ℕ → ℕ → ℕ → List ℕ
slice file place size = take size (drop place file)
