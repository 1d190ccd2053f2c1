-- `zones::simple::begun` meets its contract.
use Rattle.numbers.proofs.Prelude.{eq-eqb, ne_eqb}
use Rattle.zones.proofs.simple.begun.Goals as goal

pub returns-then-kind-eq84 : goal.returns-then-kind-eq84
returns-then-kind-eq84 c =
    simp (eq-eqb _ _ c.if-kind-eq84.true)

pub returns : goal.returns
returns c =
    simp (ne_eqb _ _ c.if-kind-eq84.false)
