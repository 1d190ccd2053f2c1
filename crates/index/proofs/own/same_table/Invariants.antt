-- `index::own::same_table` meets its contract. The loop's invariant is `Matching`.
use Rattle.numbers.proofs.Prelude.{◌-◌}
use Rattle.index.proofs.{Comparing.{Matching}}
use Rattle.index.proofs.own.same_table.Given as goal

abbrev pub invariant-loop-at : goal.invariant-loop-at
invariant-loop-at l = Matching l.head.strict l.file l.end l.initial.at l.initial.floor.0 l.index l.at l.floor.0 l.same l.n

abbrev pub decreases-loop-at : goal.decreases-loop-at
decreases-loop-at l = l.end - l.at.place
