-- `notes::noted::note::enter_values` meets its contract.
use Rattle.numbers.proofs.Prelude.{◌-◌, ◌≤◌, length, ◌≡◌}
use Rattle.notes.specs.inner.Noted.Noting.{EntersAll}
use Rattle.notes.proofs.noted.note.enter_values.Given as goal

abbrev pub invariant-loop-field : goal.invariant-loop-field
invariant-loop-field l = (l.field ≤ l.names) × (length l.chains ≡ length l.initial.chains) × EntersAll l.names l.yard l.texts.starts.now l.texts.bytes.now l.initial.chains l.chains l.field

abbrev pub decreases-loop-field : goal.decreases-loop-field
decreases-loop-field l = l.names - l.field
