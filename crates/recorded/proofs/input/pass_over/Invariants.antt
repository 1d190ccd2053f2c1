-- Fewer bytes are left after each read.
use Rattle.recorded.proofs.input.pass_over.Given as goal

abbrev pub decreases-loop-left : goal.decreases-loop-left
decreases-loop-left g l = l.left
