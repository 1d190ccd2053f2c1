-- `notes::noted::note::note_yards` meets its contract.
use Rattle.numbers.proofs.Prelude.{◌-◌, ◌≤◌, length, ◌≡◌}
use Rattle.notes.specs.inner.Noted.Noting.{NotesAll}
use Rattle.notes.proofs.noted.note.note_yards.Given as goal

abbrev pub invariant-loop-yard : goal.invariant-loop-yard
invariant-loop-yard l =
    (l.yard ≤ l.count) × (length l.chains ≡ length l.initial.chains) × (length l.groups ≡ length l.initial.groups) × NotesAll l.names l.yard l.starts l.texts
    l.chains l.groups

abbrev pub decreases-loop-yard : goal.decreases-loop-yard
decreases-loop-yard l = l.count - l.yard
