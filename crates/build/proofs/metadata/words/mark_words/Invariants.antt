-- `build::metadata::words::mark_words` meets its contract.
use Rattle.build.proofs.metadata.{Worded.{Words}}
use Rattle.build.proofs.metadata.words.mark_words.Given as goal

abbrev pub invariant-loop-i : goal.invariant-loop-i
invariant-loop-i l = Words l.lengths l.texts l.initial.words l.words l.sums.inline l.sums.remote l.i
