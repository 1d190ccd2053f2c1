-- `numbers::varint::read_backward` meets its contract: the loop keeps `Descent`, and each way out is a case of `backward_at`.
use Rattle.numbers.proofs.{Prelude.{◌-◌, rules, arith}, varint.{Backward.{past, inside}, Descent.{Descent, begun, further, whole, overlong, none}}}
use Rattle.numbers.proofs.varint.read_backward.Goals as goal

pub returns-then-file-place : goal.returns-then-file-place
returns-then-file-place c =
    past _ _ c.if-file-place.true

pub returns-then-last-ge128 : goal.returns-then-last-ge128
returns-then-last-ge128 c =
    inside _ _ c.if-file-place.false c.if-last-ge128.true

pub loop-before-init : goal.loop-before-init
loop-before-init c =
    begun _ _ c.if-file-place.false c.if-last-ge128.false

pub returns-then-place-before-gt10 : goal.returns-then-place-before-gt10
returns-then-place-before-gt10 c =
    overlong c.loop-before.invariant c.loop-before-test.true c.if-byte-lt128.true (omega (arith, c.loop-before-test.true, c.if-place-before-gt10.true))

pub returns-then-byte-lt128 : goal.returns-then-byte-lt128
returns-then-byte-lt128 c =
    whole c.loop-before.invariant c.loop-before-test.true c.if-byte-lt128.true (omega (arith, c.loop-before-test.true, c.if-place-before-gt10.false))

pub loop-before-preserved : goal.loop-before-preserved
loop-before-preserved c =
    further c.loop-before.invariant c.loop-before-test.true c.if-byte-lt128.false

pub returns : goal.returns
returns c =
    none c.loop-before.invariant c.loop-before-test.false
