-- `numbers::float::bits::of_bits` meets its contract. Without its sign a NaN's pattern is a number above the infinity's, and 0 / 0 is the NaN.
use Rattle.numbers.proofs.{Prelude.{ℕ, ◌%◌, ◌<◌, rules, T, Float, binary32, fin, nan, inf, of_bits, div, Bool, not, ◌≡◌, refl, sym, subst, ◌∙◌}}
use lib.{Arith.{le→nltb}, Dec.{lt→ltb}, Ieee.{is_nan, Bits.{nan_bits_is, nan_bits_above}}}
use Rattle.numbers.proofs.float.bits.of_bits.Goals as goal

is_nan_lem : (x : Float) → T (is_nan x) → x ≡ nan
unfolding is_nan
is_nan_lem nan t = refl
is_nan_lem (inf s) t = absurd t
is_nan_lem (fin s m e) t = absurd t

nan_of : (b : ℕ) → 0x7f80_0000 < b % 0x8000_0000 → of_bits binary32 b ≡ nan
nan_of b h = is_nan_lem (of_bits binary32 b) (subst T (sym (nan_bits_above binary32 b) ∙ nan_bits_is binary32 b) (lt→ltb 0x7f80_0000 (b % 0x8000_0000) h))

zero_over_zero : div binary32 (of_bits binary32 0) (of_bits binary32 0) ≡ nan
unfolding div of_bits
zero_over_zero = refl

pub float_from_bits-result : goal.float_from_bits-result
float_from_bits-result c =
    subst (λ (t : Bool). T (not t)) (sym (nan_bits_above binary32 c.args.b)) (le→nltb 0x7f80_0000 (c.args.b % 0x8000_0000) c.if-b-gt2139095040.false)

pub returns-then-b-gt2139095040 : goal.returns-then-b-gt2139095040
returns-then-b-gt2139095040 c =
    zero_over_zero ∙ sym (nan_of c.args.b c.if-b-gt2139095040.true)
