-- `build::metadata::kept::keep_records` meets its contract.
use Rattle.numbers.proofs.Prelude.{length}
use Rattle.build.proofs.metadata.Keeping.{Keeping}
use Rattle.build.proofs.metadata.kept.keep_records.Given as goal

abbrev pub invariant-loop-here : goal.invariant-loop-here
invariant-loop-here l =
    Keeping l.names (length l.keys) l.lengths l.texts l.initial.places l.initial.kept l.initial.held l.places l.kept l.held l.sums.lengths l.sums.bytes l.here
