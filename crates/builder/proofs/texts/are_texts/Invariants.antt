-- `builder::texts::are_texts` meets its contract.
use Rattle.builder.proofs.{Readables.{Testing}}
use Rattle.builder.proofs.texts.are_texts.Given as goal

abbrev pub invariant-loop-length : goal.invariant-loop-length
invariant-loop-length l = Testing l.lengths l.texts l.at l.length-index
