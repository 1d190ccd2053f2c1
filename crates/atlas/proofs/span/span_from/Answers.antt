-- `atlas::span::span_from` meets its contract. The loop's invariant is `Spanning`.
use Rattle.numbers.proofs.Prelude.{sym, ◌∙◌}
use Rattle.atlas.proofs.{Nexts.{point_of}, Spanning.{spanning_starts, spanning_full, spanning_ends, spanning_on}}
use Rattle.atlas.proofs.span.span_from.Goals as goal

pub loop-init : goal.loop-init
loop-init c =
    spanning_starts _ _ _ _

pub returns-in_default : goal.returns-in_default
returns-in_default c =
    spanning_ends _ _ _ _ c.loop.invariant c.loop-test.true c.next_point.result c.next_point.ensures (sym c.unwrap_or.ensures ∙ c.in_default.is)

pub loop-preserved : goal.loop-preserved
loop-preserved c =
    spanning_on _ _ _ _ c.loop.invariant c.loop-test.true c.in-Some.later (point_of c.next_point.result (sym c.unwrap_or.ensures ∙ c.in-Some.is) c.next_point.ensures)
    c.grow-frame.ensures

pub returns : goal.returns
returns c =
    spanning_full _ _ _ _ c.loop.invariant c.loop-test.false
