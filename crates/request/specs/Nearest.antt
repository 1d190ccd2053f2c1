-- What "the f32 nearest to a fraction, ties to even" means, over whole numbers: a finite f32 is in size a whole number of times 2 ^ -149.
use Rattle.std.specs.Prelude.{if◌then◌else◌, ◌+◌, ◌-◌, ◌*◌, ◌/◌, ◌%◌, ◌^◌, ◌≤◌, ◌≡◌}
use Rattle.numbers.specs.{Float.Root.{units_of}, Prelude.{ℕ, T, Float, binary32, fin, nan, inf, Bool, false}}
use Rattle.std.specs.Bool.{beq}
use lib.Ieee.{size, fits, Scale.{finite}}
use Rattle.request.specs.Number.{Fraction}

-- how far two numbers are apart
unfoldable pub gap : ℕ → ℕ → ℕ
gap a b = (a - b) + (b - a)

-- its sign
abbrev pub is_negative : Float → Bool
is_negative nan = false
is_negative (inf s) = s
is_negative (fin s m e) = s

-- how far an f32 is from a fraction, counted in 2 ^ -149 / den
unfoldable pub away : Fraction → Float → ℕ
away fraction y =
    let a = fraction.size.num * 2 ^ 149 in
    let b = units_of y * fraction.size.den in
    if beq (is_negative y) fraction.minus then gap a b else a + b

-- the 24 leading digits of its size
abbrev pub leading : Float → ℕ
leading x = units_of x / 2 ^ (size (units_of x) - 24)

-- no f32 is nearer to the fraction, and where one of another size is as near, the last digit of this one is even
pub record Nearest (fraction : Fraction) (x : Float) : Type 0 where
  pub held : T (fits binary32 x)
  pub is_finite : T (finite x)
  pub none_nearer : (y : Float) → T (fits binary32 y) → T (finite y) → away fraction x ≤ away fraction y
  pub tie_even : (y : Float) → T (fits binary32 y) → T (finite y) → away fraction y ≡ away fraction x → (units_of y ≡ units_of x → ⊥) → leading x % 2 ≡ 0
