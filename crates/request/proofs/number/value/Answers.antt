-- `request::number::value` meets its contract.
use Rattle.numbers.proofs.Prelude.{ℕ, ◌+◌, ◌*◌, ◌^◌, ◌≤◌, length, drop, get_or, ◌≡◌, refl, sym, ap, ◌∙◌, arith}
use Rattle.request.proofs.{Numerals.{tens, ten_more, value_least, value_on, value_end, same_digits}}
use Rattle.request.specs.Number.{digit_of, value_from}
use Rattle.request.proofs.number.value.Goals as goal

pub overflow_mul-value : goal.overflow_mul-value
overflow_mul-value c =
    let on = value_on c.args.text.now c.loop-byte.byte-index c.loop-byte.value c.loop-byte-test.true in
    omega (
      arith,
      on,
      c.loop-byte.invariant.0,
      c.requires.1,
      value_least (10 * c.loop-byte.value + digit_of (get_or c.args.text.now c.loop-byte.byte-index 0)) (drop (c.loop-byte.byte-index
          + 1) c.args.text.now),
    )

pub overflow_add-value : goal.overflow_add-value
overflow_add-value c =
    let on = value_on c.args.text.now c.loop-byte.byte-index c.loop-byte.value c.loop-byte-test.true in
    omega (
      arith,
      on,
      c.digit.ensures,
      c.loop-byte.invariant.0,
      c.requires.1,
      value_least (10 * c.loop-byte.value + digit_of (get_or c.args.text.now c.loop-byte.byte-index 0))
          (drop (c.loop-byte.byte-index + 1) c.args.text.now),
    )

pub overflow_mul-scale : goal.overflow_mul-scale
overflow_mul-scale c =
    let few : c.loop-byte.byte-index + 1 ≤ 19 = omega (arith, c.requires.0) in
    omega (arith, tens few, ten_more c.loop-byte.byte-index, c.loop-byte.invariant.1)

pub loop-byte-preserved : goal.loop-byte-preserved
loop-byte-preserved c =
    let text = c.args.text.now in (
      ap (λ (d : ℕ). value_from (10 * c.loop-byte.value + d) (drop (c.loop-byte.byte-index + 1) text)) c.digit.ensures
          ∙ value_on text c.loop-byte.byte-index c.loop-byte.value c.loop-byte-test.true ∙ c.loop-byte.invariant.0,
      ap (λ (s : ℕ). 10 * s) c.loop-byte.invariant.1
          ∙ sym (ten_more c.loop-byte.byte-index),
      omega arith,
    )

pub returns : goal.returns
returns c =
    same_digits (value_end c.args.text.now c.loop-byte.byte-index c.loop-byte.value c.loop-byte-test.false ∙ c.loop-byte.invariant.0) (c.loop-byte.invariant.1
    ∙ ap (λ (k : ℕ). 10 ^ k) (let z : c.loop-byte.byte-index ≡ length c.args.text.now = omega (arith, c.loop-byte.invariant) in z))
