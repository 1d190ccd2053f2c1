-- `table::pass::skip_over` meets its contract: the loop's invariant is the contract itself.
use Rattle.numbers.proofs.Prelude.{◌-◌}
use Rattle.table.specs.inner.Passing.{SkippedOver}
use Rattle.table.proofs.pass.skip_over.Given as goal

abbrev pub invariant-loop-place : goal.invariant-loop-place
invariant-loop-place l = SkippedOver l.file l.end l.fix l.start l.place

abbrev pub decreases-loop-place : goal.decreases-loop-place
decreases-loop-place l = l.end - l.place
