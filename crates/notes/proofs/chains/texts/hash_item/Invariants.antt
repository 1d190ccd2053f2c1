-- `notes::chains::texts::hash_item` meets its contract.
use Rattle.numbers.proofs.Prelude.{◌+◌, ◌-◌, ◌≤◌}
use Rattle.builder.{proofs.grouping.Walks.{ItemHash}, specs.Grouping.Items.{Inside}}
use Rattle.notes.proofs.chains.texts.hash_item.Given as goal

abbrev pub invariant-loop-i : goal.invariant-loop-i
invariant-loop-i l = (l.i ≤ l.width) × (Inside l.texts.starts.now l.texts.bytes.now (l.at + l.width) → ItemHash l.texts.starts.now l.texts.bytes.now l.at l.width l.hash l.i)

abbrev pub decreases-loop-i : goal.decreases-loop-i
decreases-loop-i l = l.width - l.i
