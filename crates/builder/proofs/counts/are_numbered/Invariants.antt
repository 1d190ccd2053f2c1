-- `builder::counts::are_numbered` meets its contract.
use Rattle.builder.proofs.{Counting.{Numbering}}
use Rattle.builder.proofs.counts.are_numbered.Given as goal

abbrev pub invariant-loop-yard : goal.invariant-loop-yard
invariant-loop-yard l = Numbering l.names l.yards l.yard-iterator.rest.now l.yard-iterator.size
