-- `numbers::write::write_varint` meets its contract. The loop keeps `Writing`: what is left of the number, and of its bytes.
use Rattle.numbers.proofs.{Prelude.{rules, ◌∙◌, arith}, write.{Putting.{put_length, Writing, begun, ended, onward, tenth_small, ended_tenth}}}
use Rattle.numbers.proofs.write.write_varint.Goals as goal

pub loop-left-init : goal.loop-left-init
loop-left-init c =
    begun _ _ _ (search rules)

pub overflow_sub-result : goal.overflow_sub-result
overflow_sub-result c =
    omega (arith, c.loop-left.invariant.few)

pub returns-then-rest-lt128 : goal.returns-then-rest-lt128
returns-then-rest-lt128 c =
    ended c.loop-left.invariant c.if-rest-lt128.true c.put.ensures.0

pub loop-left-preserved : goal.loop-left-preserved
loop-left-preserved c =
    onward c.loop-left.invariant c.loop-left-test.true c.if-rest-lt128.false c.put-next.ensures.0 c.put-next.ensures.1

pub returns : goal.returns
returns c =
    ended_tenth c.loop-left.invariant (omega (arith, c.loop-left-test.false)) c.put-2.ensures.0
