-- `numbers::float::nearest::digits` meets its contract: the zeros above the leading digit, and the digits from it on, make 64.
use Rattle.numbers.proofs.{Prelude.{ℕ, suc, ◌+◌, ◌-◌, ◌^◌, ◌<◌, inl, inr, ◌≡◌, refl, sym, ap, ◌∙◌, arith}, float.{Rounding.{size_is}}}
use lib.{Count.{count_leading_zeros, leading_le, leading_of_zero, leading_top}, Ieee.{size}}
use Rattle.std.proofs.Common.{eq-zero-or-pos}
use Rattle.numbers.proofs.float.nearest.digits.Goals as goal

zero_size : size 0 ≡ 0
unfolding size
zero_size = refl

rest : (z j s : ℕ) → z + suc j ≡ 64 → s ≡ suc j → 64 - z ≡ s
rest z j s e f = omega arith

all_but_zeros : (n : ℕ) → n < 2 ^ 64 → 64 - count_leading_zeros 64 n ≡ size n
all_but_zeros n h =
    elim (eq-zero-or-pos n) [
      | inl e ↦ ap (λ (k : ℕ). 64 - count_leading_zeros 64 k) e ∙ ap (λ (k : ℕ). 64 - k) (leading_of_zero 64) ∙ sym (ap size e ∙ zero_size)
      | inr p ↦ let t = leading_top 64 n p h in rest (count_leading_zeros 64 n) t.0 (size n) t.1 (size_is t.0 n t.2 t.3)
    ]

pub overflow_cast-result : goal.overflow_cast-result
overflow_cast-result c =
    omega (arith, leading_le 64 c.args.n)

pub overflow_sub-result : goal.overflow_sub-result
overflow_sub-result c =
    leading_le 64 c.args.n

pub returns : goal.returns
returns c =
    all_but_zeros c.args.n (omega arith)
