-- `notes::noted::note::gather` meets its contract.
use Rattle.numbers.proofs.Prelude.{ℕ, ◌-◌, ◌*◌, get_or}
use Rattle.notes.proofs.noted.{Marking.{Gathering}}
use Rattle.notes.proofs.noted.note.gather.Given as goal

abbrev pub invariant-loop-i : goal.invariant-loop-i
invariant-loop-i l = Gathering (λ (i : ℕ). get_or l.places (2 * i) 0) l.count l.initial.begins l.begins l.i

abbrev pub decreases-loop-i : goal.decreases-loop-i
decreases-loop-i l = l.count - l.i
