-- `border::reader::moves_left` meets its contract: the tests decide as the definition does.
use Rattle.numbers.{proofs.{Laws.{exits}, Prelude.{eq-eqb, ne_eqb}}}
use Rattle.border.specs.inner.Told.{counted}
use Rattle.border.proofs.reader.moves_left.Goals as goal

pub returns-then-reader : goal.returns-then-reader
unfolding counted
returns-then-reader c =
    rw c.if-reader.true

pub returns-in_err-count : goal.returns-in_err-count
unfolding counted
returns-in_err-count c =
    rw c.if-reader.false (exits c.from_residual.result c.in_err-count.was c.read_number.ensures c.from_residual.ensures.1 _)

pub returns-then-count-eq0 : goal.returns-then-count-eq0
unfolding counted
returns-then-count-eq0 c =
    rw (c.if-reader.false, ← c.read_number.ensures, c.in_ok-count.was, eq-eqb _ _ c.if-count-eq0.true)

pub returns : goal.returns
unfolding counted
returns c =
    rw (c.if-reader.false, ← c.read_number.ensures, c.in_ok-count.was, ne_eqb _ _ c.if-count-eq0.false)
