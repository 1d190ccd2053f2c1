-- `verdict::edge::closest` meets its contract: in each arm the edge is that arm's constructor, at which the definition computes.
use Rattle.numbers.proofs.{Laws.{float_of}, Prelude.{rules}}
use Rattle.verdict.specs.Edge.{closest_on}
use Rattle.verdict.proofs.edge.closest.Goals as goal

pub returns-in-EqualLongitude : goal.returns-in-EqualLongitude
unfolding closest_on
returns-in-EqualLongitude c =
    rw (c.in-EqualLongitude.is, float_of c.in-EqualLongitude.lon.0 (search rules) c.of_i32.ensures)

pub returns-in-EqualLatitude : goal.returns-in-EqualLatitude
unfolding closest_on
returns-in-EqualLatitude c =
    rw (c.in-EqualLatitude.is, float_of c.in-EqualLatitude.lat.0 (search rules) c.of_i32-in-EqualLatitude.ensures)
