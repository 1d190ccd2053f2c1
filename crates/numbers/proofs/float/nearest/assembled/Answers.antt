-- `numbers::float::nearest::assembled` meets its contract (proofs/Rounding.antt, `pattern`). The bits lie below the infinity's.
use Rattle.numbers.proofs.{Prelude.{ℕ, ◌%◌, ◌≤◌, rules, T, binary32, Bool, not, sym, subst, arith}, float.{Rounding.{pattern}}}
use lib.{Arith.{le→nltb}, Ieee.{nan_bits, Bits.{nan_bits_above}}}
use Rattle.numbers.proofs.float.nearest.assembled.Goals as goal

no_nan : (b : ℕ) → b ≤ 2130706432 → T (not (nan_bits binary32 b))
no_nan b h = subst (λ (t : Bool). T (not t)) (sym (nan_bits_above binary32 b)) (le→nltb 2139095040 (b % 2147483648) (omega arith))

pub float_from_bits-result : goal.float_from_bits-result
float_from_bits-result c =
    no_nan _ (omega arith)

pub returns : goal.returns
returns c =
    sym (pattern c.args.kept c.args.place c.requires.0 c.requires.1 c.requires.2)
