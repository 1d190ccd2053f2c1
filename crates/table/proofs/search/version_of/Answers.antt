-- `table::search::version_of` meets its contract.
use Rattle.numbers.proofs.Prelude.{eq-eqb, ne_eqb}
use Rattle.table.proofs.search.version_of.Goals as goal

pub returns-then-byte-eq0 : goal.returns-then-byte-eq0
returns-then-byte-eq0 c =
    simp (eq-eqb _ _ c.if-byte-eq0.true)

pub returns-else-byte-eq0 : goal.returns-else-byte-eq0
returns-else-byte-eq0 c =
    simp (ne_eqb _ _ c.if-byte-eq0.false)
