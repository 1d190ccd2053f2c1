-- `table::pass::pass_over` meets its contract: the loop's invariant is the contract itself.
use Rattle.numbers.proofs.Prelude.{◌-◌}
use Rattle.table.specs.inner.Passing.{PassedOver}
use Rattle.table.proofs.pass.pass_over.Given as goal

abbrev pub invariant-loop-at : goal.invariant-loop-at
invariant-loop-at l = PassedOver l.file l.end l.fix l.initial.at l.at

abbrev pub decreases-loop-at : goal.decreases-loop-at
decreases-loop-at l = l.end - l.at.place
