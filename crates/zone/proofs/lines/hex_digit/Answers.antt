-- `zone::lines::hex_digit` meets its contract.
use Rattle.zone.proofs.{Digits.{below_ten, from_ten}}
use Rattle.zone.proofs.lines.hex_digit.Goals as goal

pub returns-then-digit-lt10 : goal.returns-then-digit-lt10
returns-then-digit-lt10 c =
    below_ten _ c.if-digit-lt10.true

pub returns-else-digit-lt10 : goal.returns-else-digit-lt10
returns-else-digit-lt10 c =
    from_ten _ c.if-digit-lt10.false
