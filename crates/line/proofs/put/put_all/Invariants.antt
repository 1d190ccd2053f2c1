-- `line::put::put_all` in its loop: the bytes before the next one stand there.
use Rattle.numbers.proofs.Prelude.{◌≤◌, length, take}
use Rattle.line.specs.Put.{Put}
use Rattle.line.proofs.put.put_all.Given as goal

abbrev pub invariant-loop-byte : goal.invariant-loop-byte
invariant-loop-byte l = (l.byte-index ≤ length l.bytes) × Put l.initial.out l.at (take l.byte-index l.bytes) l.out l.next
