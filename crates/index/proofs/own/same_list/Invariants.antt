-- `index::own::same_list` meets its contract. The loop's invariant is `Stepping`.
use Rattle.index.proofs.{Comparing.{Stepping}}
use Rattle.index.proofs.own.same_list.Given as goal

abbrev pub invariant-loop-k : goal.invariant-loop-k
invariant-loop-k l = Stepping l.index l.tile l.n l.from l.at l.k
