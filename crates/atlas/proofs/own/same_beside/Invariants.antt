-- `atlas::own::same_beside` meets its contract. The loop's invariant is `Comparing`.
use Rattle.atlas.proofs.{Owned.{Comparing}}
use Rattle.atlas.proofs.own.same_beside.Given as goal

abbrev pub invariant-loop-k : goal.invariant-loop-k
invariant-loop-k l = Comparing l.file l.head l.words l.n l.first l.at l.k
