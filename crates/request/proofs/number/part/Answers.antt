-- `request::number::part` meets its contract.
use Rattle.numbers.proofs.Prelude.{ℕ, ◌+◌, ◌-◌, ◌≤◌, length, take, drop, length-take, ◌≡◌, ap, ◌∙◌, arith}
use Rattle.request.proofs.{Numerals.{value_short}}
use Rattle.request.specs.{Number.{value_from, part_of}, declared.number.Digits.{Digits}}
use Rattle.request.proofs.number.part.Goals as goal

pub value-digits-requires : goal.value-digits-requires
value-digits-requires c =
    let few : length (take (c.args.from + c.args.n - c.args.from) (drop c.args.from c.args.text.now)) ≤ 4 = omega (
      arith,
      c.requires,
      length-take (c.args.from +
          c.args.n - c.args.from) (drop c.args.from c.args.text.now),
    ) in
    (omega arith, omega (arith, value_short 0 1 4 (take (c.args.from + c.args.n - c.args.from) (drop c.args.from c.args.text.now)) (omega arith) few))

pub returns : goal.returns
unfolding part_of
returns c =
    let text = c.args.text.now in
    let same : c.args.from + c.args.n - c.args.from ≡ c.args.n = omega arith in
    let value : c.value-digits.result.value ≡ part_of c.args.from c.args.n text = ap (λ (d : Digits). d.value) c.value-digits.ensures
    ∙ ap (λ (k : ℕ). value_from 0 (take k (drop c.args.from text))) same in (
      value,
      omega (
        arith,
        value,
        value_short 0 1 c.args.n (take c.args.n (drop c.args.from text)) (omega arith) (omega (
          arith,
          length-take c.args.n (drop
              c.args.from text),
        )),
      ),
    )
