-- `draft::summed::sums::is_sum` meets its contract.
use Rattle.draft.proofs.summed.{Taken.{Taking}}
use Rattle.draft.proofs.summed.sums.is_sum.Given as goal

abbrev pub invariant-loop-length : goal.invariant-loop-length
invariant-loop-length l = Taking l.lengths l.sum l.left l.length-index
