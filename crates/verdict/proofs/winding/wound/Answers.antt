-- `verdict::winding::wound` meets its contract: what its calls ensure, by how many quadrants the edge leads on.
use Rattle.numbers.proofs.Prelude.{◌+◌, ◌-◌, ◌%◌, eq-eqb, ne_eqb, ◌≡◌, ◌∙◌, arith}
use Rattle.verdict.proofs.{Halts.{exits, goes_on}, Kept.{quadrant_small}}
use Rattle.verdict.specs.Winding.{quarter_by, wound_by}
use Rattle.verdict.proofs.winding.wound.Goals as goal

pub returns-then-to-from : goal.returns-then-to-from
unfolding quarter_by wound_by
returns-then-to-from c =
    let none : (c.args.to.quadrant + 4 - c.args.from.quadrant) % 4 ≡ 0 = omega (arith, c.if-to-from.true) in
    rw (← c.requires.1, ← c.requires.2, none) c.keep_clear.ensures

pub overflow_add-quarters : goal.overflow_add-quarters
overflow_add-quarters c =
    record { fits = omega (arith, c.requires.2, quadrant_small c.args.fix c.args.to.point) }

pub overflow_sub-quarters : goal.overflow_sub-quarters
overflow_sub-quarters c =
    omega (arith, c.requires.1, quadrant_small c.args.fix c.args.from.point)

pub returns-then-quarters-eq2 : goal.returns-then-quarters-eq2
unfolding wound_by
returns-then-quarters-eq2 c =
    rw (← c.requires.1, ← c.requires.2, eq-eqb _ _ c.if-quarters-eq2.true) (rw c.edge_between-edge.ensures at c.cross.ensures)

pub returns-in_err-counted : goal.returns-in_err-counted
unfolding wound_by
returns-in_err-counted c =
    rw (← c.requires.1, ← c.requires.2, ne_eqb _ _ c.if-quarters-eq2.false) (exits c.from_residual.result c.in_err-counted.was c.quarter.ensures c.from_residual.ensures.1 _)

pub returns : goal.returns
unfolding wound_by
returns c =
    rw (← c.requires.1, ← c.requires.2, ne_eqb _ _ c.if-quarters-eq2.false) (c.keep_clear-2.ensures ∙ goes_on c.quarter.result c.quarter.ensures c.in_ok-counted.was _)
