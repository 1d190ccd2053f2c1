-- `verdict::edge::seen_from` meets its contract: what its calls ensure.
use Rattle.verdict.specs.inner.Kept.{seen_from}
use Rattle.verdict.proofs.edge.seen_from.Goals as goal

pub returns-then-asked : goal.returns-then-asked
unfolding seen_from
returns-then-asked c =
    rw (c.if-asked.true, c.quadrant_of-quadrant.ensures, c.spot_of.ensures)

pub returns-else-asked : goal.returns-else-asked
unfolding seen_from
returns-else-asked c =
    rw (c.if-asked.false, c.quadrant_of-quadrant.ensures, c.requires)
