-- `line::clock::put_shown` in its loop: what is shown of the bytes before the next one stands there.
use Rattle.numbers.proofs.Prelude.{◌≤◌, length, take, map}
use lib.Bits.{bit_xor}
use Rattle.line.specs.{Clock.{shown}, Put.{Put}}
use Rattle.line.proofs.clock.put_shown.Given as goal

abbrev pub invariant-loop-byte : goal.invariant-loop-byte
invariant-loop-byte l = (l.byte-index ≤ length l.text) × Put l.initial.out l.at (map (λ byte. shown (bit_xor byte l.mask)) (take l.byte-index l.text)) l.out l.next
