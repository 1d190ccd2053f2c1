-- `zone::lines::put_matches` meets its contract: the matches from i on are still to come.
use Rattle.numbers.proofs.Prelude.{take}
use Rattle.table.{specs.{Hits.{slots}}}
use Rattle.zone.proofs.{Printing.{Matching}}
use Rattle.zone.proofs.lines.put_matches.Given as goal

abbrev pub invariant-loop-i : goal.invariant-loop-i
invariant-loop-i l = Matching l.initial.out l.at l.count (take l.all (slots l.hits)) l.text l.out l.next l.place l.i
