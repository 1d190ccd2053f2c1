-- `atlas::span::span_from` meets its contract. The loop's invariant is `Spanning`.
use Rattle.atlas.proofs.{Spanning.{Spanning}}
use Rattle.atlas.specs.inner.Marking.{boxed}
use Rattle.atlas.proofs.span.span_from.Given as goal

abbrev pub invariant-loop : goal.invariant-loop
invariant-loop l = Spanning l.edges l.file l.encoding l.initial.last (boxed l.frame) l.last l.counter
