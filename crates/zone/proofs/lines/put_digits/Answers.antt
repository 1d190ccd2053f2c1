-- `zone::lines::put_digits` meets its contract: the digits of the bytes from i on are still to come.
use Rattle.numbers.proofs.Prelude.{arith}
use Rattle.zone.proofs.{Printing.{none_yet, partly_length, partly_all, one_byte, no_bytes}}
use Rattle.zone.proofs.lines.put_digits.Goals as goal

pub loop-byte-init : goal.loop-byte-init
loop-byte-init c =
    none_yet _ _ _

pub loop-byte-preserved : goal.loop-byte-preserved
loop-byte-preserved c =
    one_byte c.args.bytes.now c.loop-byte.byte-index (omega arith) c.loop-byte.invariant c.put_hex-next.ensures

pub shape_of-out : goal.shape_of-out
shape_of-out c =
    partly_length c.loop-byte.invariant

pub returns : goal.returns
returns c =
    partly_all (no_bytes c.args.bytes.now c.loop-byte.byte-index (omega arith)) c.loop-byte.invariant
