-- `tzrule::number::digits_at` meets its contract.
use Rattle.numbers.proofs.Prelude.{◌+◌, ◌≡◌, sym, ◌∙◌, arith}
use Rattle.tzrule.proofs.{Numbers.{digit_range, few, taken_first, taken_end, taken_stop, taken_more}}
use Rattle.tzrule.proofs.number.digits_at.Goals as goal

pub overflow_add-end : goal.overflow_add-end
overflow_add-end c =
    omega (arith, c.requires)

pub loop-next-init : goal.loop-next-init
loop-next-init c =
    taken_first _ _ _ c.requires.1

pub returns-then-not-is_digit : goal.returns-then-not-is_digit
returns-then-not-is_digit c = (
  taken_stop c.loop-next.invariant (omega arith) (c.from-byte.ensures ∙ c.byte_at.ensures) (sym c.is_digit.ensures
      ∙ c.if-not-is_digit.true),
  c.loop-next.invariant.inside,
)

pub overflow_mul-value : goal.overflow_mul-value
overflow_mul-value c =
    omega (arith, few c.loop-next.invariant c.requires.2)

pub overflow_sub-value : goal.overflow_sub-value
overflow_sub-value c =
    omega (arith, digit_range _ (sym c.is_digit.ensures ∙ c.if-not-is_digit.false))

pub overflow_add-value : goal.overflow_add-value
overflow_add-value c =
    omega (arith, few c.loop-next.invariant c.requires.2, digit_range _ (sym c.is_digit.ensures ∙ c.if-not-is_digit.false))

pub loop-next-preserved : goal.loop-next-preserved
loop-next-preserved c =
    taken_more c.loop-next.invariant (omega arith) (c.from-byte.ensures ∙ c.byte_at.ensures) (sym c.is_digit.ensures ∙ c.if-not-is_digit.false)

pub returns : goal.returns
returns c =
    let all : c.loop-next.next ≡ c.args.at + c.args.most = omega (arith, c.loop-next.invariant.to, c.loop-next-test.false) in
    (rw all at (taken_end c.loop-next.invariant (omega arith)), rw all at c.loop-next.invariant.inside)
