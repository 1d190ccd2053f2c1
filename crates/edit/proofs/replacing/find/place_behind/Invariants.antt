-- `edit::replacing::find::place_behind` meets its contract.
use Rattle.numbers.proofs.Prelude.{◌*◌, ◌^◌, ◌≤◌}
use Rattle.build.proofs.Rooms.{Summing}
use Rattle.edit.proofs.replacing.find.place_behind.Given as goal

abbrev pub invariant-loop-length : goal.invariant-loop-length
invariant-loop-length l = Summing l.lengths l.sum l.length-index × (l.sum ≤ 2 ^ 32 * l.length-index)
