-- `salvage::strings::span_inside` meets its contract.
use Rattle.numbers.proofs.Prelude.{◌^◌, ◌<◌, rules, ◌∙◌, arith}
use Rattle.header.proofs.Strings.{read_within}
use Rattle.salvage.proofs.strings.{Placing.{span_stops, span_is, span_far}}
use Rattle.salvage.proofs.strings.span_inside.Goals as goal

pub returns-in_default : goal.returns-in_default
returns-in_default c =
    span_stops _ _ _ _ (rw c.in_default.is at c.read_number.ensures)

pub returns-then-number-gt4294967295 : goal.returns-then-number-gt4294967295
returns-then-number-gt4294967295 c =
    let small : c.args.head.sections.«data» < 2 ^ 32 = search rules in
    span_far _ _ _ (rw c.in-Ok.is at c.read_number.ensures) c.if-number-gt4294967295.true small

pub overflow_add-number : goal.overflow_add-number
overflow_add-number c =
    omega (arith, read_within _ _ _ (rw c.in-Ok.is at c.read_number.ensures))

pub returns : goal.returns
returns c =
    c.in_section.ensures ∙ span_is _ _ _ (rw c.in-Ok.is at c.read_number.ensures)
