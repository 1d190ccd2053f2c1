-- `atlas::course::edges_from` meets its contract. The loop's invariant is `Counting`.
use Rattle.atlas.proofs.{Counting.{Counting}}
use Rattle.atlas.proofs.course.edges_from.Given as goal

abbrev pub invariant-loop-n : goal.invariant-loop-n
invariant-loop-n l = Counting l.file l.encoding l.initial.reader l.reader l.n
