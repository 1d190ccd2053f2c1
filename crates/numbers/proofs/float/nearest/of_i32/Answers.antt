-- `numbers::float::nearest::of_i32` meets its contract: a negative number rounds as its size does.
use Rattle.numbers.proofs.Prelude.{ℕ, rules, ltb-true, T, binary32, neg, ℤ, pos, negsuc, nat_abs, lt_z, true, false, ◌≡◌, refl, sym, ap, subst, ◌∙◌, w32, of_z, to_z, to_z-of_z, arith}
use Rattle.numbers.proofs.float.{Rounding.{of_int_neg, signed_held}}
use Rattle.numbers.specs.Float.{to_f32}
use Rattle.numbers.proofs.float.nearest.of_i32.Goals as goal

below_zero : (n : ℤ) → lt_z n (pos 0) ≡ true → neg (to_f32 (pos (nat_abs n))) ≡ to_f32 n
below_zero (pos k) e = absurd (omega (arith, ltb-true k 0 e))
below_zero (negsuc k) e = of_int_neg binary32 k

from_zero : (n : ℤ) → lt_z n (pos 0) ≡ false → to_f32 (pos (nat_abs n)) ≡ to_f32 n
from_zero (pos k) e = refl
from_zero (negsuc k) e = absurd (subst T e tt)

pub returns-then-n-lt0 : goal.returns-then-n-lt0
returns-then-n-lt0 c =
    let n = c.args.n in let read : to_z w32 (of_z w32 n) ≡ n = to_z-of_z w32 n c.ranges.n in ap neg (c.of_u64-rounded.ensures ∙ ap (λ (k : ℕ). to_f32 (pos k)) (c.magnitude.ensures ∙ ap nat_abs read)) ∙ below_zero n (ap (λ (z : ℤ). lt_z z (pos 0)) (sym read) ∙ c.if-n-lt0.true)
