-- `index::tiles::from_of` meets its contract.
use Rattle.numbers.proofs.Prelude.{eq-eqb, ne_eqb}
use Rattle.index.specs.Tiles.{span_of}
use Rattle.index.proofs.tiles.from_of.Goals as goal

pub returns-then-i-eq0 : goal.returns-then-i-eq0
unfolding span_of
returns-then-i-eq0 c =
    rw (eq-eqb c.args.i 0 c.if-i-eq0.true)

pub returns : goal.returns
unfolding span_of
returns c =
    rw (ne_eqb c.args.i 0 c.if-i-eq0.false) c.begins_at.ensures
