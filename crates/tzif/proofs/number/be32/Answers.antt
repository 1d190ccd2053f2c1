-- `tzif::number::be32` meets its contract.
use Rattle.numbers.proofs.Prelude.{arith}
use Rattle.tzif.specs.Number.{be32}
use Rattle.tzif.proofs.number.be32.Goals as goal

pub returns : goal.returns
unfolding be32
returns c =
    omega arith
