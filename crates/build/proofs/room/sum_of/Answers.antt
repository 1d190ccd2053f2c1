-- `build::room::sum_of` meets its contract.
use Rattle.numbers.proofs.Prelude.{arith}
use Rattle.build.proofs.{Rooms.{sum_starts, sum_room, sum_goes, sum_ends}}
use Rattle.build.proofs.room.sum_of.Goals as goal

pub loop-length-preserved : goal.loop-length-preserved
loop-length-preserved c =
    sum_goes _ _ _ c.loop-length.invariant c.loop-length-test.true

pub returns : goal.returns
returns c =
    sum_ends _ _ _ c.loop-length.invariant c.loop-length-test.false
