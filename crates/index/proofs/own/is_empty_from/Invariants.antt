-- `index::own::is_empty_from` meets its contract. The loop's invariant is `Emptying`.
use Rattle.numbers.proofs.Prelude.{◌-◌, length}
use Rattle.index.proofs.{Comparing.{Emptying}}
use Rattle.index.proofs.own.is_empty_from.Given as goal

abbrev pub invariant-loop-at : goal.invariant-loop-at
invariant-loop-at l = Emptying l.index l.from l.at

abbrev pub decreases-loop-at : goal.decreases-loop-at
decreases-loop-at l = length l.index - l.at
