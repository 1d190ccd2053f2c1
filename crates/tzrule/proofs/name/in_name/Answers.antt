-- `tzrule::name::in_name` meets its contract.
use Rattle.numbers.proofs.Prelude.{eq-eqb, ◌∙◌}
use Rattle.tzrule.proofs.{Letters.{by_letter, by_none, by_digit, by_plus, by_minus}}
use Rattle.tzrule.proofs.name.in_name.Goals as goal

pub returns-then-is_letter : goal.returns-then-is_letter
returns-then-is_letter c =
    c.if-is_letter.true ∙ by_letter _ _ c.is_letter.ensures c.if-is_letter.true

pub returns-then-is_digit : goal.returns-then-is_digit
returns-then-is_digit c =
    c.if-is_digit.true ∙ by_digit _ _ c.is_letter.ensures c.if-is_letter.false c.if-quoted.true c.is_digit.ensures c.if-is_digit.true

pub returns-then-byte-eq43 : goal.returns-then-byte-eq43
returns-then-byte-eq43 c =
    eq-eqb _ _ c.if-byte-eq43.true ∙ by_plus _ _ c.is_letter.ensures c.if-is_letter.false c.if-quoted.true c.is_digit.ensures c.if-is_digit.false c.if-byte-eq43.true

pub returns-else-byte-eq43 : goal.returns-else-byte-eq43
returns-else-byte-eq43 c =
    by_minus _ _ c.is_letter.ensures c.if-is_letter.false c.if-quoted.true c.is_digit.ensures c.if-is_digit.false c.if-byte-eq43.false

pub returns-else-quoted : goal.returns-else-quoted
returns-else-quoted c =
    c.if-quoted.false ∙ by_none _ _ c.is_letter.ensures c.if-is_letter.false c.if-quoted.false
