-- `numbers::float::cut::whole_part` meets its contract (proofs/float/Places.antt).
use Rattle.numbers.proofs.{Prelude.{rules, T, lit≤, binary32, sym, subst, lt_of_lt_of_le, arith}, float.{Places.{Fields, fields_of, placed, no_nan}}}
use lib.Ieee.{fits, to_bits, Bits.{to_bits-lt}}
use Rattle.numbers.specs.Float.Root.{units_of}
-- what owning an f32 tells: the format holds it
use Rattle.numbers.proofs.float.cut.whole_part.Goals as goal

pub float_to_bits-bits : goal.float_to_bits-bits
float_to_bits-bits c =
    let held : T (fits binary32 c.args.x) = subst T (sym c.well_formed.0.1) tt in
    no_nan c.args.x held c.requires.0 c.requires.1

pub overflow_cast-bits : goal.overflow_cast-bits
overflow_cast-bits c =
    let held : T (fits binary32 c.args.x) = subst T (sym c.well_formed.0.1) tt in
    record { fits = lt_of_lt_of_le (to_bits-lt binary32 c.args.x held) (lit≤ tt) }

pub overflow_sub-result : goal.overflow_sub-result
overflow_sub-result c =
    let held : T (fits binary32 c.args.x) = subst T (sym c.well_formed.0.1) tt in
    let known : Fields (units_of c.args.x) (to_bits binary32 c.args.x) = fields_of c.args.x held c.requires.0 c.requires.1 in
    omega (arith, known.most)

pub overflow_shr-result : goal.overflow_shr-result
overflow_shr-result c =
    let held : T (fits binary32 c.args.x) = subst T (sym c.well_formed.0.1) tt in
    let known : Fields (units_of c.args.x) (to_bits binary32 c.args.x) = fields_of c.args.x held c.requires.0 c.requires.1 in
    omega (arith, known.least)

pub returns : goal.returns
returns c =
    let held : T (fits binary32 c.args.x) = subst T (sym c.well_formed.0.1) tt in
    placed c.args.x held c.requires.0 c.requires.1
