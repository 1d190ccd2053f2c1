-- `layout::records::least_layout` meets its contract, by the steps that rise and stay under.
use Rattle.numbers.proofs.Prelude.{◌-◌, ◌^◌}
use Rattle.layout.proofs.records.{Stepping.{Rising}}
use Rattle.layout.proofs.records.least_layout.Given as goal

abbrev pub invariant-loop-records : goal.invariant-loop-records
invariant-loop-records l = Rising l.inline l.words l.records

abbrev pub decreases-loop-records : goal.decreases-loop-records
decreases-loop-records l = 2 ^ 32 - l.records
