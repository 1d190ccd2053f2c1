-- `build::metadata::begins::place_records` meets its contract.
use Rattle.build.proofs.metadata.Beginning.{Beginning}
use Rattle.build.proofs.metadata.begins.place_records.Given as goal

abbrev pub invariant-loop-here : goal.invariant-loop-here
invariant-loop-here l = Beginning l.names l.count l.lengths l.texts l.initial.places l.places l.begin l.field l.here
