-- `builder::texts::put_texts` meets its contract.
use Rattle.builder.proofs.{Inlines.{Inlining}}
use Rattle.builder.specs.Metadata.{inlined}
use Rattle.builder.proofs.texts.put_texts.Given as goal

abbrev pub invariant-loop-length : goal.invariant-loop-length
invariant-loop-length l = Inlining (λ k. inlined) l.initial.out l.place l.lengths l.texts l.out l.next l.at l.length-index
