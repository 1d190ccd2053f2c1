-- `edit::changing::sum::sum_within` meets its contract.
use Rattle.edit.proofs.changing.{Sums.{Bounded}}
use Rattle.edit.proofs.changing.sum.sum_within.Given as goal

abbrev pub invariant-loop-length : goal.invariant-loop-length
invariant-loop-length l = Bounded l.lengths l.most l.sum l.length-index
