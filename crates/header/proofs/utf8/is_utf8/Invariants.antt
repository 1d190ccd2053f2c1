-- `header::utf8::is_utf8` meets its contract.
use Rattle.header.proofs.utf8.{Octets.{Going}}
use Rattle.header.proofs.utf8.is_utf8.Given as goal

abbrev pub invariant-loop-byte : goal.invariant-loop-byte
invariant-loop-byte l = Going l.stored l.pending l.byte-index
