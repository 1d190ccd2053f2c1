-- `verdict::edge::in_box` meets its contract: what its calls ensure.
use Rattle.verdict.specs.Edge.{in_box}
use Rattle.verdict.proofs.edge.in_box.Goals as goal

pub returns-then-lat_between : goal.returns-then-lat_between
unfolding in_box
returns-then-lat_between c =
    rw (← c.lat_between.ensures, c.if-lat_between.true) c.lon_between.ensures

pub returns-else-lat_between : goal.returns-else-lat_between
unfolding in_box
returns-else-lat_between c =
    rw (← c.lat_between.ensures, c.if-lat_between.false)
