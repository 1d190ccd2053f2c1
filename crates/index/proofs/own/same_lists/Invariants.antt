-- `index::own::same_lists` meets its contract. The loop's invariant is `Walking`.
use Rattle.index.proofs.{Comparing.{Walking}}
use Rattle.index.proofs.own.same_lists.Given as goal

abbrev pub invariant-loop-t : goal.invariant-loop-t
invariant-loop-t l = Walking l.index l.precision l.n l.from l.at l.t
