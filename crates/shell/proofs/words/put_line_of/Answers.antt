-- `shell::words::put_line_of` meets its contract.
use Rattle.numbers.proofs.Prelude.{arith}
use Rattle.line.proofs.Puts.{put_as}
use Rattle.shell.proofs.{Saying.{still_begin, still_length, still_end, still_byte, still_next, still_on, still_past}}
use Rattle.shell.proofs.words.put_line_of.Goals as goal

pub loop-i-init : goal.loop-i-init
loop-i-init c =
    still_begin _ _ _ _

pub shape_of-out-then-left-eq0 : goal.shape_of-out-then-left-eq0
shape_of-out-then-left-eq0 c =
    still_length c.loop-i.invariant

pub returns-then-left-eq0 : goal.returns-then-left-eq0
returns-then-left-eq0 c =
    put_as c.requires.line (still_end c.loop-i.invariant c.loop-i-test.true c.if-byte-eq10.true c.if-left-eq0.true)

pub loop-i-preserved-then-byte-eq10 : goal.loop-i-preserved-then-byte-eq10
loop-i-preserved-then-byte-eq10 c =
    still_next c.loop-i.invariant _ c.loop-i-test.true c.if-byte-eq10.true (omega (arith, c.if-left-eq0.false))

pub loop-i-preserved-then-left-eq0-2 : goal.loop-i-preserved-then-left-eq0-2
loop-i-preserved-then-left-eq0-2 c =
    still_byte c.loop-i.invariant c.loop-i-test.true c.if-byte-eq10.false c.if-left-eq0-2.true c.put-next.ensures

pub loop-i-preserved : goal.loop-i-preserved
loop-i-preserved c =
    still_on c.loop-i.invariant c.loop-i-test.true c.if-byte-eq10.false c.if-left-eq0-2.false

pub shape_of-out : goal.shape_of-out
shape_of-out c =
    still_length c.loop-i.invariant

pub returns : goal.returns
returns c =
    put_as c.requires.line (still_past c.loop-i.invariant (omega (arith, c.loop-i-test.false)))
