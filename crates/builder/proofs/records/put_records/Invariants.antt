-- `builder::records::put_records` meets its contract.
use Rattle.builder.proofs.{Inlines.{Inlining}}
use Rattle.builder.specs.Metadata.{field_bytes}
use Rattle.builder.proofs.records.put_records.Given as goal

abbrev pub invariant-loop-i : goal.invariant-loop-i
invariant-loop-i l = Inlining (field_bytes l.records l.words) l.initial.out l.place l.lengths l.texts l.out l.next l.at l.i
