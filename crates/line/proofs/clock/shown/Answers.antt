-- `line::clock::shown` meets its contract.
use Rattle.line.proofs.{Shown.{letter, too_low, too_high}}
use Rattle.line.proofs.clock.shown.Goals as goal

pub returns-then-byte-lt127 : goal.returns-then-byte-lt127
returns-then-byte-lt127 c =
    letter _ c.if-byte-gt32.true c.if-byte-lt127.true

pub returns-else-byte-lt127 : goal.returns-else-byte-lt127
returns-else-byte-lt127 c =
    too_high _ c.if-byte-gt32.true c.if-byte-lt127.false

pub returns-else-byte-gt32 : goal.returns-else-byte-gt32
returns-else-byte-gt32 c =
    too_low _ c.if-byte-gt32.false
