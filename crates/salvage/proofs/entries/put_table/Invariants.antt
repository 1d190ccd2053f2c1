-- `salvage::entries::put_table` meets its contract.
use Rattle.numbers.proofs.Prelude.{◌-◌}
use Rattle.salvage.proofs.entries.{Tabling.{Tabling}}
use Rattle.salvage.proofs.entries.put_table.Given as goal

abbrev pub invariant-loop-row : goal.invariant-loop-row
invariant-loop-row l = Tabling l.file l.head l.initial.out l.at l.out l.next l.id l.size l.from

abbrev pub decreases-loop-row : goal.decreases-loop-row
decreases-loop-row l = l.head.sections.metadata - l.from.place
