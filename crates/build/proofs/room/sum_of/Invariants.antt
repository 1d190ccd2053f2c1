-- `build::room::sum_of` meets its contract.
use Rattle.build.proofs.{Rooms.{Summing}}
use Rattle.build.proofs.room.sum_of.Given as goal

abbrev pub invariant-loop-length : goal.invariant-loop-length
invariant-loop-length l = Summing l.lengths l.sum l.length-index
