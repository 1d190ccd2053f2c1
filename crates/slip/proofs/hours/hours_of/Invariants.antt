-- `slip::hours::hours_of` meets its contract.
use Rattle.numbers.proofs.Prelude.{◌-◌, ◌≤◌, take}
use Rattle.slip.proofs.{Asking.{Agreeing}}
use Rattle.table.{specs.Hits.{slots}}
use Rattle.slip.proofs.hours.hours_of.Given as goal

abbrev pub invariant-loop-i : goal.invariant-loop-i
invariant-loop-i l = Agreeing l.map l.head l.zones l.fix.instant (take l.count (slots l.hits)) l.first l.agree l.i
