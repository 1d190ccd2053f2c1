-- `builder::put::put_masked` meets its contract.
use Rattle.builder.proofs.{Puts.{Putting}}
use Rattle.header.specs.Utf8.{unmasked}
use Rattle.builder.proofs.put.put_masked.Given as goal

abbrev pub invariant-loop-byte : goal.invariant-loop-byte
invariant-loop-byte l = Putting unmasked l.initial.out l.place l.bytes l.out l.next l.byte-index
