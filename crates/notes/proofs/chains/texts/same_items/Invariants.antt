-- `notes::chains::texts::same_items` meets its contract.
use Rattle.numbers.proofs.Prelude.{◌+◌, ◌-◌, ◌≤◌}
use Rattle.builder.{proofs.grouping.Walks.{ItemSame}, specs.Grouping.Items.{Inside}}
use Rattle.notes.proofs.chains.texts.same_items.Given as goal

abbrev pub invariant-loop-i : goal.invariant-loop-i
invariant-loop-i l = (l.i ≤ l.width) × (Inside l.texts.starts.now l.texts.bytes.now (l.a + l.width) → Inside l.texts.starts.now l.texts.bytes.now (l.b + l.width) → ItemSame l.texts.starts.now l.texts.bytes.now l.a l.b l.width l.i)

abbrev pub decreases-loop-i : goal.decreases-loop-i
decreases-loop-i l = l.width - l.i
