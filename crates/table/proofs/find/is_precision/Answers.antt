-- `table::find::is_precision` meets its contract.
use Rattle.numbers.proofs.Prelude.{le-leb, lt-leb}
use Rattle.table.proofs.find.is_precision.Goals as goal

pub returns-then-precision-ge1 : goal.returns-then-precision-ge1
returns-then-precision-ge1 c =
    simp (le-leb _ _ c.if-precision-ge1.true)

pub returns-else-precision-ge1 : goal.returns-else-precision-ge1
returns-else-precision-ge1 c =
    simp (lt-leb _ _ c.if-precision-ge1.false)
