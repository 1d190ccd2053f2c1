-- `numbers::float::root::taken_apart` meets its contract (proofs/float/Smallest.antt, `decoded`, `led`).
use Rattle.numbers.proofs.Prelude.{ℕ, ◌+◌, ◌%◌, ◌≤◌, ◌<◌, rules, T, lit<, lit≤, binary32, sym, subst, ◌∙◌, lt_of_lt_of_le, mul-one, arith}
use Rattle.numbers.proofs.float.{Rounding.{size_is}, Smallest.{Decoded, decoded, led, positive_no_nan}}
use lib.Ieee.{fits, to_bits, Bits.{to_bits-lt}}
use Rattle.numbers.specs.Float.Root.{units_of}
-- what owning an f32 tells: the format holds it
use Rattle.numbers.proofs.float.root.taken_apart.Goals as goal

-- with the leading digit there are 24
full : (b : ℕ) → (8388608 ≤ b % 8388608 + 8388608) × (b % 8388608 + 8388608 < 16777216)
full b = (omega arith, omega arith)

pub float_to_bits-bits : goal.float_to_bits-bits
float_to_bits-bits c =
    positive_no_nan c.args.x c.requires

pub overflow_cast-bits : goal.overflow_cast-bits
overflow_cast-bits c =
    let held : T (fits binary32 c.args.x) = subst T (sym c.well_formed.0.1) tt in
    record { fits = lt_of_lt_of_le (to_bits-lt binary32 c.args.x held) (lit≤ tt) }

pub returns-then-bits-lt8388608 : goal.returns-then-bits-lt8388608
returns-then-bits-lt8388608 c =
    let held : T (fits binary32 c.args.x) = subst T (sym c.well_formed.0.1) tt in
    let known : Decoded (units_of c.args.x) (to_bits binary32 c.args.x) = decoded c.args.x held c.requires in
    let b = known.low (omega arith) in record { whole = mul-one _ ∙ b; small = (subst (λ (x : ℕ). 0 < x) (sym b) known.above, omega arith, lit< tt, c.digits.ensures) }

pub returns : goal.returns
returns c =
    let held : T (fits binary32 c.args.x) = subst T (sym c.well_formed.0.1) tt in
    let known : Decoded (units_of c.args.x) (to_bits binary32 c.args.x) = decoded c.args.x held c.requires in
    let b = led known c.if-bits-lt8388608.false in let f = full (to_bits binary32 c.args.x) in record { whole = b.0; small = (omega (arith, f.0), f.1, b.1, sym (size_is 23 _ f.0 f.1)) }
