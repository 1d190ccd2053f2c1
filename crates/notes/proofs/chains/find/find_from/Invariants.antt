-- `notes::chains::find::find_from` meets its contract.
use Rattle.notes.proofs.chains.{Walking.{Walking}}
use Rattle.notes.proofs.chains.find.find_from.Given as goal

abbrev pub invariant-loop-at : goal.invariant-loop-at
invariant-loop-at l = Walking l.texts.starts.now l.texts.bytes.now l.width l.chain l.item l.from l.at

abbrev pub decreases-loop-at : goal.decreases-loop-at
decreases-loop-at l = l.at
