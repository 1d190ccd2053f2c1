-- `tzrule::number::is_digit` meets its contract.
use Rattle.numbers.proofs.Prelude.{lt-leb, ◌∙◌}
use Rattle.tzrule.proofs.{Numbers.{not_low, not_high}}
use Rattle.tzrule.proofs.number.is_digit.Goals as goal

pub returns-then-byte-ge48 : goal.returns-then-byte-ge48
returns-then-byte-ge48 c =
    not_high _ c.if-byte-ge48.true

pub returns-else-byte-ge48 : goal.returns-else-byte-ge48
returns-else-byte-ge48 c =
    lt-leb _ _ c.if-byte-ge48.false ∙ not_low _ c.if-byte-ge48.false
