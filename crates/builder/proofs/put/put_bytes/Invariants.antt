-- `builder::put::put_bytes` meets its contract.
use Rattle.builder.proofs.{Puts.{Putting, itself}}
use Rattle.builder.proofs.put.put_bytes.Given as goal

abbrev pub invariant-loop-byte : goal.invariant-loop-byte
invariant-loop-byte l = Putting itself l.initial.out l.place l.bytes l.out l.next l.byte-index
