-- `atlas::build::put_beside` meets its contract. The loop's invariant is `Entering`.
use Rattle.atlas.proofs.{Behind.{Entering}}
use Rattle.atlas.proofs.build.put_beside.Given as goal

abbrev pub invariant-loop-k : goal.invariant-loop-k
invariant-loop-k l = Entering l.file l.head l.initial.words l.n l.first l.words l.at l.k
