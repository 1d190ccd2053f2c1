-- `slip::lines::put_zones` meets its contract.
use Rattle.numbers.proofs.Prelude.{◌-◌, ◌≤◌, take}
use Rattle.slip.proofs.{Zones.{Lining}}
use Rattle.table.{specs.{Hits.{slots}}}
use Rattle.slip.proofs.lines.put_zones.Given as goal

abbrev pub invariant-loop-i : goal.invariant-loop-i
invariant-loop-i l = Lining l.map l.head l.zones l.fix.instant (take l.count (slots l.hits)) l.initial.out l.at l.out l.next l.i
