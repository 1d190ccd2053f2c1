-- `builder::grouping::items::mark_starts` meets its contract.
use Rattle.builder.proofs.grouping.{Starting.{Starting}}
use Rattle.builder.proofs.grouping.items.mark_starts.Given as goal

abbrev pub invariant-loop-i : goal.invariant-loop-i
invariant-loop-i l = Starting l.initial.starts l.lengths l.starts l.at l.i
