-- The list keeps its length.
use Rattle.std.proofs.Common.{◌≡◌, length}
use Rattle.recorded.proofs.lists.words_at.Given as goal

abbrev pub invariant-loop-i : goal.invariant-loop-i
invariant-loop-i g l = length l.list ≡ g.row.N
