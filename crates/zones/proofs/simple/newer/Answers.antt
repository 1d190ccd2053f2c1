-- `zones::simple::newer` meets its contract.
use Rattle.numbers.proofs.Prelude.{eq-eqb, ne_eqb}
use Rattle.zones.proofs.simple.newer.Goals as goal

pub returns-then-part-eq1 : goal.returns-then-part-eq1
returns-then-part-eq1 c =
    simp (eq-eqb _ _ c.if-part-eq1.true)

pub returns-then-part-eq2 : goal.returns-then-part-eq2
returns-then-part-eq2 c =
    simp (ne_eqb _ _ c.if-part-eq1.false, eq-eqb _ _ c.if-part-eq2.true)

pub returns : goal.returns
returns c =
    simp (ne_eqb _ _ c.if-part-eq1.false, ne_eqb _ _ c.if-part-eq2.false)
