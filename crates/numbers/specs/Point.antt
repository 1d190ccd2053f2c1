-- Signed numbers and points, as document 01 has them.
use Rattle.std.specs.Prelude.{if◌then◌else◌, ◌+◌, ◌-◌, ◌*◌, ◌/◌, ◌%◌, ◌^◌, ◌-ℤ◌}
use Rattle.numbers.specs.{Prelude.{ℕ, zero, suc, eqb, ltb, ℤ, pos, negsuc, neg_ℤ}, declared.point.RawPoint.{RawPoint}}

-- the residue modulo 2 ^ 32
abbrev pub low32 : ℤ → ℕ
low32 (pos n) = n % 2 ^ 32
low32 (negsuc n) = 2 ^ 32 - 1 - n % 2 ^ 32

-- kept modulo 2 ^ 32 as an i32: from -2 ^ 31 up to 2 ^ 31
abbrev pub read_i32 : ℕ → ℤ
read_i32 low = if ltb low (2 ^ 31) then pos low else (pos low -ℤ pos (2 ^ 32))

-- half the value, negated if odd
abbrev pub half_of : ℕ → ℤ
half_of value = if eqb (value % 2) 0 then pos (value / 2) else neg_ℤ (pos (value / 2))

unfoldable pub signed_of : ℕ → ℤ
signed_of value = read_i32 (low32 (half_of value))

-- of the low 2 * n bits those at even places, as a number of n bits
unfoldable pub even_bits : ℕ → ℕ → ℕ
even_bits zero w = 0
even_bits (suc n) w = w % 2 + 2 * even_bits n (w / 4)

-- the bits at even places, and above them, from bit 32 on, those at odd places
abbrev pub both_bits : ℕ → ℕ
both_bits w = even_bits 32 w + even_bits 32 (w / 2) * 2 ^ 32

-- even bits give the raw latitude, odd bits the raw longitude, each in its signed form
unfoldable pub point_of : ℕ → RawPoint
point_of value = record { lat = signed_of (even_bits 32 value); lon = signed_of (even_bits 32 (value / 2)) }
