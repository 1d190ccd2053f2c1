-- `builder::yards::check_yards` meets its contract.
use Rattle.builder.proofs.{Checking.{Checking}}
use Rattle.builder.proofs.yards.check_yards.Given as goal

abbrev pub invariant-loop-yard : goal.invariant-loop-yard
invariant-loop-yard l = Checking l.yards l.lats l.lons l.yard-iterator.rest.now l.yard-iterator.size l.lat l.lon
