-- `verdict::distance::distance_of` meets its contract: what its calls ensure.
use Rattle.verdict.specs.Distance.{distance_of}
use Rattle.verdict.proofs.distance.distance_of.Goals as goal

pub returns-then-holds_cut : goal.returns-then-holds_cut
unfolding distance_of
returns-then-holds_cut c =
    let near = rw (c.edge_between-edge.ensures, c.requires.0) at c.closest-near.ensures in
    let held = rw near at c.holds_cut.ensures in
    rw (← held, c.if-holds_cut.true) (rw (near, c.requires.0) at c.to_segment.ensures)

pub returns-else-holds_cut : goal.returns-else-holds_cut
unfolding distance_of
returns-else-holds_cut c =
    let near = rw (c.edge_between-edge.ensures, c.requires.0) at c.closest-near.ensures in
    let held = rw near at c.holds_cut.ensures in
    rw (← held, c.if-holds_cut.false) c.to_vertex.ensures
