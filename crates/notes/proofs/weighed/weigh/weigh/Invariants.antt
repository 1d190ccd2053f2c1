-- `notes::weighed::weigh::weigh` meets its contract.
use Rattle.numbers.proofs.Prelude.{◌-◌}
use Rattle.notes.proofs.weighed.{Added.{Adding}}
use Rattle.notes.proofs.weighed.weigh.weigh.Given as goal

abbrev pub invariant-loop-i : goal.invariant-loop-i
invariant-loop-i l = Adding l.names l.count l.word l.texts.starts.now l.texts.bytes.now l.chains l.bytes l.i

abbrev pub decreases-loop-i : goal.decreases-loop-i
decreases-loop-i l = l.names - l.i
