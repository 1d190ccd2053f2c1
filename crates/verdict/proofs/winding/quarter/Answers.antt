-- `verdict::winding::quarter` meets its contract: the two tests decide as the definition does.
use Rattle.numbers.proofs.Prelude.{eq-eqb, ne_eqb}
use Rattle.verdict.specs.Winding.{quarter_by}
use Rattle.verdict.proofs.winding.quarter.Goals as goal

pub returns-then-quarters-eq1 : goal.returns-then-quarters-eq1
unfolding quarter_by
returns-then-quarters-eq1 c =
    rw (eq-eqb _ _ c.if-quarters-eq1.true) c.turn.ensures

pub returns-then-quarters-eq3 : goal.returns-then-quarters-eq3
unfolding quarter_by
returns-then-quarters-eq3 c =
    rw (ne_eqb _ _ c.if-quarters-eq1.false, eq-eqb _ _ c.if-quarters-eq3.true) c.turn-then-quarters-eq3.ensures

pub returns : goal.returns
unfolding quarter_by
returns c =
    rw (ne_eqb _ _ c.if-quarters-eq1.false, ne_eqb _ _ c.if-quarters-eq3.false)
