-- `edit::replacing::find::place_behind` meets its contract.
use Rattle.numbers.proofs.Prelude.{arith}
use Rattle.build.proofs.Rooms.{sum_starts, sum_goes, sum_ends}
use Rattle.edit.proofs.replacing.find.place_behind.Goals as goal

pub loop-length-init : goal.loop-length-init
loop-length-init c =
    (sum_starts _, omega arith)

pub overflow_cast-sum : goal.overflow_cast-sum
overflow_cast-sum c =
    omega (arith, c.type_inv.lengths c.loop-length.length-index)

pub overflow_add-sum : goal.overflow_add-sum
overflow_add-sum c =
    omega (arith, c.type_inv.lengths c.loop-length.length-index)

pub loop-length-preserved : goal.loop-length-preserved
loop-length-preserved c =
    (sum_goes _ _ _ c.loop-length.invariant.0 c.loop-length-test.true, omega (arith, c.type_inv.lengths c.loop-length.length-index))

pub returns : goal.returns
returns c =
    (sum_ends _ _ _ c.loop-length.invariant.0 c.loop-length-test.false, omega arith)
