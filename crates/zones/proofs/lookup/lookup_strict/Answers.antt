-- `zones::lookup::lookup_strict` meets its contract: `lookup_by` in the strict reading.
use Rattle.zones.specs.Lookup.{looked_strictly}
use Rattle.zones.proofs.lookup.lookup_strict.Goals as goal

pub returns : goal.returns
unfolding looked_strictly
returns c =
    c.lookup_by.ensures
