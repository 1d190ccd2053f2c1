-- `atlas::course::edges_from` meets its contract. The loop's invariant is `Counting`.
use Rattle.numbers.proofs.Prelude.{sym, ◌∙◌}
use Rattle.atlas.proofs.{Counting.{counting_starts, counting_full, counting_stops, counting_ends, counting_not, counting_on}}
use Rattle.atlas.proofs.course.edges_from.Goals as goal

pub loop-n-init : goal.loop-n-init
loop-n-init c =
    counting_starts _ _ _

pub returns-in_default : goal.returns-in_default
returns-in_default c =
    counting_stops _ _ _ c.loop-n.invariant c.loop-n-test.true _ (rw c.in_default.is at c.next_point.ensures)

pub returns-then-same_point : goal.returns-then-same_point
returns-then-same_point c =
    rw (sym c.same_point.ensures ∙ c.if-same_point.true) at (counting_ends _ _ _ c.loop-n.invariant c.loop-n-test.true (rw (c.in-Ok.is, c.in_default-next.is) at c.next_point.ensures))

pub returns-else-same_point : goal.returns-else-same_point
returns-else-same_point c =
    rw (sym c.same_point.ensures ∙ c.if-same_point.false) at (counting_ends _ _ _ c.loop-n.invariant c.loop-n-test.true (rw (c.in-Ok.is, c.in_default-next.is) at c.next_point.ensures))

pub returns-then-not-is_markable : goal.returns-then-not-is_markable
returns-then-not-is_markable c =
    counting_not _ _ _ c.loop-n.invariant c.loop-n-test.true c.in-Some.later (rw (c.in-Ok.is, c.in-Some.is) at c.next_point.ensures) (sym c.is_markable.ensures
    ∙ c.if-not-is_markable.true)

pub loop-n-preserved : goal.loop-n-preserved
loop-n-preserved c =
    counting_on _ _ _ c.loop-n.invariant c.loop-n-test.true c.in-Some.later (rw (c.in-Ok.is, c.in-Some.is) at c.next_point.ensures) (sym c.is_markable.ensures
    ∙ c.if-not-is_markable.false)

pub returns : goal.returns
returns c =
    counting_full _ _ _ c.loop-n.invariant c.loop-n-test.false
