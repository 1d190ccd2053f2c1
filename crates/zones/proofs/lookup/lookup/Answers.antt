-- `zones::lookup::lookup` meets its contract: `lookup_by` in the plain reading.
use Rattle.zones.specs.Lookup.{looked_up, zones_in}
use Rattle.zones.proofs.lookup.lookup.Goals as goal

pub returns : goal.returns
unfolding looked_up zones_in
returns c =
    c.lookup_by.ensures
