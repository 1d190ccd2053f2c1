-- `table::merge::later` meets its contract.
use Rattle.numbers.proofs.Prelude.{eq-eqb, ne_eqb}
use Rattle.table.proofs.merge.later.Goals as goal

pub returns-then-second-eq-NO_KIND : goal.returns-then-second-eq-NO_KIND
returns-then-second-eq-NO_KIND c =
    simp (eq-eqb _ _ c.if-second-eq-NO_KIND.true)

pub returns-else-second-eq-NO_KIND : goal.returns-else-second-eq-NO_KIND
returns-else-second-eq-NO_KIND c =
    simp (ne_eqb _ _ c.if-second-eq-NO_KIND.false)
