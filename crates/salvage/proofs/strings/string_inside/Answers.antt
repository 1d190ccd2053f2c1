-- `salvage::strings::string_inside` meets its contract.
use Rattle.numbers.proofs.Prelude.{◌∙◌, arith}
use Rattle.header.proofs.Strings.{read_within}
use Rattle.salvage.proofs.strings.{Placing.{string_stops, string_inline, string_away, string_cut}}
use Rattle.salvage.proofs.strings.string_inside.Goals as goal

pub returns-in_default : goal.returns-in_default
returns-in_default c =
    string_stops _ _ _ _ (rw c.in_default.is at c.read_number.ensures)

pub overflow_add-number : goal.overflow_add-number
overflow_add-number c =
    omega (arith, read_within _ _ _ (rw c.in-Ok.is at c.read_number.ensures))

pub returns-then-number-lt256 : goal.returns-then-number-lt256
returns-then-number-lt256 c =
    c.in_section.ensures ∙ string_inline _ _ _ (rw c.in-Ok.is at c.read_number.ensures) c.if-number-lt256.true

pub returns-then-in_section : goal.returns-then-in_section
returns-then-in_section c =
    string_away _ _ _ (rw c.in-Ok.is at c.read_number.ensures) c.if-number-lt256.false c.in_section-2.ensures c.if-in_section.true c.span_inside.ensures

pub returns : goal.returns
returns c =
    string_cut _ _ _ (rw c.in-Ok.is at c.read_number.ensures) c.if-number-lt256.false c.in_section-2.ensures c.if-in_section.false
