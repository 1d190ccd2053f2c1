-- `tzif::place::standards_of` meets its contract.
use Rattle.numbers.proofs.Prelude.{arith}
use native.Mathlib.Nat.{mul-add}
use Rattle.tzif.proofs.place.standards_of.Goals as goal

pub overflow_mul-result : goal.overflow_mul-result
overflow_mul-result c =
    omega (arith, mul-add c.args.block.leapcnt c.args.block.width 4)

pub overflow_mul-result-2 : goal.overflow_mul-result-2
overflow_mul-result-2 c =
    omega (arith, mul-add c.args.block.leapcnt c.args.block.width 4)

pub overflow_add-result : goal.overflow_add-result
overflow_add-result c =
    omega (arith, mul-add c.args.block.leapcnt c.args.block.width 4)

pub overflow_add-result-2 : goal.overflow_add-result-2
overflow_add-result-2 c =
    omega (arith, mul-add c.args.block.leapcnt c.args.block.width 4)

pub returns : goal.returns
returns c =
    omega (arith, mul-add c.args.block.leapcnt c.args.block.width 4, c.leaps_of.ensures)
