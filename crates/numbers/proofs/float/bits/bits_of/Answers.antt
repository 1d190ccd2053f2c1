-- `numbers::float::bits::bits_of` meets its contract. Only a NaN differs from itself, and the logic's pattern of it is the constant.
use Rattle.numbers.proofs.{Prelude.{rules, T, Float, binary32, fin, nan, inf, false, not, ◌≡◌, refl, sym, ap, subst, ◌∙◌}}
use lib.Ieee.{ne, is_nan, to_bits, Compare.{differs_from_itself}}
use Rattle.numbers.proofs.float.bits.bits_of.Goals as goal

no_nan : (x : Float) → ne x x ≡ false → T (not (is_nan x))
unfolding ne is_nan
no_nan nan e = subst (λ b. T (not b)) (sym e) tt
no_nan (inf s) e = tt
no_nan (fin s m d) e = tt

nan_bits : to_bits binary32 nan ≡ 0x7fc0_0000
unfolding to_bits
nan_bits = refl

pub float_to_bits-result : goal.float_to_bits-result
float_to_bits-result c =
    no_nan c.args.x c.if-x.false

pub returns-then-x : goal.returns-then-x
returns-then-x c =
    sym (ap (to_bits binary32) (differs_from_itself c.args.x (subst T (sym c.if-x.true) tt)) ∙ nan_bits)
