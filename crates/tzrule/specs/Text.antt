-- The numbers of a TZ string, read from a place on.
use Rattle.std.specs.Prelude.{if◌then◌else◌, ◌+◌, ◌-◌, ◌*◌}
use Rattle.numbers.specs.Prelude.{ℕ, zero, suc, ltb, get_or, Bool, false, List}
use Rattle.tzrule.specs.declared.number.Digits.{Digits}

-- the byte at a place; 0, which is no letter, digit or sign, past the end
unfoldable pub byte_at : List ℕ → ℕ → ℕ
byte_at text at = get_or text at 0

-- 0 to 9
unfoldable pub is_digit : ℕ → Bool
is_digit byte = if ltb byte 48 then false else ltb byte 58

-- the digits at a place, up to so many, behind those that made a value
unfoldable pub digits_of : ℕ → List ℕ → ℕ → ℕ → Digits
digits_of zero text at value = record { value = value; next = at }
digits_of (suc more) text at value = if is_digit (byte_at text at) then digits_of more text (at + 1) (10 * value + (byte_at text at - 48)) else record { value = value; next = at }

-- ten for each digit
unfoldable pub tens : ℕ → ℕ
tens zero = 1
tens (suc n) = 10 * tens n
