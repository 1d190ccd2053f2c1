-- `shell::words::put_line_of` meets its contract.
use Rattle.numbers.proofs.Prelude.{◌-◌, length}
use Rattle.shell.proofs.{Saying.{Still}}
use Rattle.shell.specs.Words.{line_at}
use Rattle.shell.proofs.words.put_line_of.Given as goal

abbrev pub invariant-loop-i : goal.invariant-loop-i
invariant-loop-i l = Still l.initial.out l.at (line_at (l.number - l.first) l.text) l.text l.out l.next l.left l.i

abbrev pub decreases-loop-i : goal.decreases-loop-i
decreases-loop-i l = length l.text - l.i
