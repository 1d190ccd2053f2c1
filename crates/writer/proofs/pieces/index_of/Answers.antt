-- `writer::pieces::index_of` meets its contract.
use Rattle.numbers.proofs.Prelude.{eq-eqb, ne_eqb}
use Rattle.writer.proofs.pieces.index_of.Goals as goal

pub returns-then-piece-eq0 : goal.returns-then-piece-eq0
returns-then-piece-eq0 c =
    rw (eq-eqb _ _ c.if-piece-eq0.true)

pub returns : goal.returns
returns c =
    rw (ne_eqb _ _ c.if-piece-eq0.false)
