-- `zone::lines::put_digits` meets its contract: the digits of the bytes from i on are still to come.
use Rattle.numbers.proofs.Prelude.{drop}
use Rattle.zone.proofs.{Printing.{Partly}}
use Rattle.zone.specs.Lines.{digits_text}
use Rattle.zone.proofs.lines.put_digits.Given as goal

abbrev pub invariant-loop-byte : goal.invariant-loop-byte
invariant-loop-byte l = Partly l.initial.out l.at (digits_text l.bytes) l.out l.next (digits_text (drop l.byte-index l.bytes))
