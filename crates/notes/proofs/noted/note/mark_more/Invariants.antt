-- `notes::noted::note::mark_more` meets its contract.
use Rattle.numbers.proofs.Prelude.{◌-◌, length}
use Rattle.notes.proofs.noted.{Marking.{Marking}}
use Rattle.notes.proofs.noted.note.mark_more.Given as goal

abbrev pub invariant-loop-i : goal.invariant-loop-i
invariant-loop-i l = Marking l.sizes l.begin l.initial.marks l.at l.marks l.end l.i

abbrev pub decreases-loop-i : goal.decreases-loop-i
decreases-loop-i l = length l.sizes - l.i
