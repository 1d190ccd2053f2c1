-- `line::put::put_all` meets its contract.
use Rattle.numbers.proofs.Prelude.{take_all, arith}
use Rattle.line.proofs.{Puts.{put_length, put_none, put_next, put_as}}
use Rattle.line.proofs.put.put_all.Goals as goal

pub loop-byte-init : goal.loop-byte-init
loop-byte-init c =
    (omega arith, put_none _ _)

pub loop-byte-preserved : goal.loop-byte-preserved
loop-byte-preserved c =
    (omega (arith, c.loop-byte-test.true), put_next c.args.bytes.now c.loop-byte.byte-index c.loop-byte-test.true c.loop-byte.invariant.1 c.put-next.ensures)

pub shape_of-out : goal.shape_of-out
shape_of-out c =
    put_length c.loop-byte.invariant.1

pub returns : goal.returns
returns c =
    put_as (take_all c.loop-byte.byte-index c.args.bytes.now (omega (arith, c.loop-byte-test.false))) c.loop-byte.invariant.1
