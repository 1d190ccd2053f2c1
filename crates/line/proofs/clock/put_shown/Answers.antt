-- `line::clock::put_shown` meets its contract.
use Rattle.numbers.proofs.Prelude.{take_all, map, ap, arith}
use lib.Bits.{bit_xor}
use Rattle.line.proofs.{Puts.{put_length, put_none, put_then, put_as, put_byte}, Shown.{one_more}}
use Rattle.line.specs.{Clock.{shown}}
use Rattle.line.proofs.clock.put_shown.Goals as goal

pub loop-byte-init : goal.loop-byte-init
loop-byte-init c =
    (omega arith, put_none _ _)

pub loop-byte-preserved : goal.loop-byte-preserved
loop-byte-preserved c = (
  omega (arith, c.loop-byte-test.true),
  put_as (one_more (λ byte. shown (bit_xor byte c.args.mask)) c.args.text.now c.loop-byte.byte-index c.loop-byte-test.true) (put_then _ _ c.loop-byte.invariant.1
      (put_byte c.shown.ensures c.put-next.ensures)),
)

pub shape_of-out : goal.shape_of-out
shape_of-out c =
    put_length c.loop-byte.invariant.1

pub returns : goal.returns
returns c =
    put_as (ap (map (λ byte. shown (bit_xor byte c.args.mask))) (take_all c.loop-byte.byte-index c.args.text.now (omega (arith, c.loop-byte-test.false)))) c.loop-byte.invariant.1
