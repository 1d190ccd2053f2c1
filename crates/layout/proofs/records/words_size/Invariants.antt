-- `layout::records::words_size` meets its contract, by the words still to be summed.
use Rattle.layout.proofs.records.{Summing.{Summed}}
use Rattle.layout.proofs.records.words_size.Given as goal

abbrev pub invariant-loop-word : goal.invariant-loop-word
invariant-loop-word l = Summed l.words l.records l.sum l.word-index
