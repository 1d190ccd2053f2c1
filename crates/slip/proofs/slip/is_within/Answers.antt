-- `slip::slip::is_within` meets its contract.
use Rattle.numbers.proofs.Prelude.{refl}
use Rattle.slip.specs.Slip.{within}
use Rattle.slip.proofs.slip.is_within.Goals as goal

pub returns-then-limit-degrees : goal.returns-then-limit-degrees
unfolding within
returns-then-limit-degrees c =
    rw c.if-limit-degrees.true refl

pub returns : goal.returns
unfolding within
returns c =
    rw c.if-limit-degrees.false refl
