-- `build::metadata::kept::put_words` meets its contract.
use Rattle.builder.proofs.Puts.{Putting, itself}
use Rattle.build.proofs.metadata.kept.put_words.Given as goal

abbrev pub invariant-loop-word : goal.invariant-loop-word
invariant-loop-word l = Putting itself l.initial.list l.place l.words l.list l.next l.word-index
