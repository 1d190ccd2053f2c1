-- `zone::lines::put_fields` meets its contract: so many fields are still to come.
use Rattle.numbers.proofs.Prelude.{◌-◌}
use Rattle.zone.proofs.{Printing.{Fielding}}
use Rattle.zone.proofs.lines.put_fields.Given as goal

abbrev pub invariant-loop : goal.invariant-loop
invariant-loop l = Fielding l.initial.out l.at l.text l.count l.out l.next l.place (l.count - l.counter)
