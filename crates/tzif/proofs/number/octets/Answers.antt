-- `tzif::number::octets` meets its contract.
use Rattle.numbers.proofs.Prelude.{refl}
use Rattle.tzif.specs.Number.{octets}
use Rattle.tzif.proofs.number.octets.Goals as goal

pub returns-then-wide : goal.returns-then-wide
unfolding octets
returns-then-wide c =
    rw c.if-wide.true refl

pub returns-else-wide : goal.returns-else-wide
unfolding octets
returns-else-wide c =
    rw c.if-wide.false refl
