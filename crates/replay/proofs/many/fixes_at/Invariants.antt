-- The list keeps its length.
use Rattle.std.proofs.Common.{◌≡◌, length}
use Rattle.replay.proofs.many.fixes_at.Given as goal

abbrev pub invariant-loop-i : goal.invariant-loop-i
invariant-loop-i l = length l.list ≡ 4097
