-- `salvage::rescue::copy::put_span` meets its contract.
use Rattle.salvage.proofs.rescue.copy.{Copying.{Copying}}
use Rattle.salvage.proofs.rescue.copy.put_span.Given as goal

abbrev pub invariant-loop-left : goal.invariant-loop-left
invariant-loop-left l = Copying l.file l.initial.out l.from l.size l.at l.out l.here l.left l.next

abbrev pub decreases-loop-left : goal.decreases-loop-left
decreases-loop-left l = l.left
