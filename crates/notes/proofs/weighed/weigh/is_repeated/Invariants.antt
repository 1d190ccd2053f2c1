-- `notes::weighed::weigh::is_repeated` meets its contract.
use Rattle.numbers.proofs.Prelude.{◌-◌}
use Rattle.notes.proofs.weighed.{Repeated.{Repeating}}
use Rattle.notes.proofs.weighed.weigh.is_repeated.Given as goal

abbrev pub invariant-loop-i : goal.invariant-loop-i
invariant-loop-i l = Repeating l.texts.starts.now l.texts.bytes.now l.first l.value l.i

abbrev pub decreases-loop-i : goal.decreases-loop-i
decreases-loop-i l = l.value - l.i
