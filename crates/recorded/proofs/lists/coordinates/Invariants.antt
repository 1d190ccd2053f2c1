-- The list keeps its length.
use Rattle.std.proofs.Common.{◌≡◌, length}
use Rattle.recorded.proofs.lists.coordinates.Given as goal

abbrev pub invariant-loop-i : goal.invariant-loop-i
invariant-loop-i l = length l.list ≡ 1024
