-- `marks::words::groups_of` meets its contract.
use Rattle.numbers.proofs.Prelude.{arith}
use Rattle.marks.specs.Marks.{groups_of}
use Rattle.marks.proofs.words.groups_of.Goals as goal

pub returns : goal.returns
unfolding groups_of
returns c =
    omega arith
