-- `salvage::data::put_data` meets its contract.
use Rattle.numbers.proofs.Prelude.{◌-◌}
use Rattle.salvage.proofs.data.{Drawing.{Drawing}}
use Rattle.salvage.proofs.data.put_data.Given as goal

abbrev pub invariant-loop-row : goal.invariant-loop-row
invariant-loop-row l = Drawing l.file l.head l.initial.out l.at l.out l.next l.from

abbrev pub decreases-loop-row : goal.decreases-loop-row
decreases-loop-row l = l.head.sections.metadata - l.from.place
