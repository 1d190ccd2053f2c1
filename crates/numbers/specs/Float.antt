-- Floats, as document 01 has them: IEEE 754 binary32, each operation rounded once, in the Rust's order.
pub mod Root
use Rattle.std.specs.Prelude.{if◌then◌else◌, ◌+◌, ◌-◌, ◌%◌, ◌^◌}
use Rattle.numbers.specs.Prelude.{ℕ, eqb, Float, binary32, ℤ, pos, negsuc}
use Rattle.std.specs.Float.Ieee.{add, sub, mul, div, of_int, to_signed}

-- i32 and u64 to f32: the nearest, ties to even
abbrev pub to_f32 : ℤ → Float
to_f32 = of_int binary32

-- f32 to i32 and to i64: cut toward zero, saturating, NaN to 0
abbrev pub cut32 : Float → ℤ
cut32 = to_signed 31

abbrev pub cut64 : Float → ℤ
cut64 = to_signed 63

-- the four operations on f32
abbrev pub ◌⊞◌ : Float → Float → Float
x ⊞ y = add binary32 x y

abbrev pub ◌⊟◌ : Float → Float → Float
x ⊟ y = sub binary32 x y

abbrev pub ◌⊠◌ : Float → Float → Float
x ⊠ y = mul binary32 x y

abbrev pub ◌⊘◌ : Float → Float → Float
x ⊘ y = div binary32 x y

infixl 6 ◌⊞◌ ◌⊟◌
infixl 7 ◌⊠◌ ◌⊘◌
-- Rust's `1_i32 << (precision - 1)`, for a precision from 1 to 32: at 32 it is -2 ^ 31. For any other the shift counts modulo 32.
unfoldable pub one_shifted : ℕ → ℤ
one_shifted precision =
    let place = (precision + 31) % 32 in
    if eqb place 31 then negsuc (2 ^ 31 - 1) else pos (2 ^ place)

-- a coordinate as a fixed-point number: input / scale * (1 << (precision - 1)), cut to an i32
unfoldable pub fixed_point : Float → Float → ℕ → ℤ
fixed_point input scale precision = cut32 (input ⊘ scale ⊠ to_f32 (one_shifted precision))
