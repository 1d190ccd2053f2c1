-- `request::degrees::decimals` meets its contract.
use Rattle.numbers.proofs.Prelude.{ℕ, ◌-◌, ◌^◌, ◌≤◌, length, take, drop, length-drop, List, ap, ◌∙◌, arith}
use Rattle.request.proofs.{Numerals.{value_short, no_decimals}, Texts.{rest_is}}
use Rattle.request.specs.{Number.{value_from}, declared.number.Digits.{Digits}}
use Rattle.request.proofs.degrees.decimals.Goals as goal

pub returns-then-text-from : goal.returns-then-text-from
returns-then-text-from c =
    no_decimals c.args.text.now c.args.from c.args.start c.if-text-from.true

pub value-requires : goal.value-requires
value-requires c =
    let rest = take (length c.args.text.now - c.args.from) (drop c.args.from c.args.text.now) in
    let few : length rest ≤ 9 = omega (arith, c.requires.1, ap length (rest_is c.args.text.now c.args.from), length-drop c.args.from c.args.text.now) in
    (omega arith, omega (arith, value_short c.args.start 1000 9 rest c.requires.0 few))
