-- `build::entries::corners::box_yards` meets its contract.
use Rattle.build.proofs.entries.{Cornered.{Boxing}}
use Rattle.build.proofs.entries.corners.box_yards.Given as goal

abbrev pub invariant-loop-count : goal.invariant-loop-count
invariant-loop-count l = Boxing l.yards l.lats l.lons l.initial.boxes l.boxes l.lat l.lon l.count-iterator.iter.rest.now l.count-iterator.iter.size l.count-iterator.count
