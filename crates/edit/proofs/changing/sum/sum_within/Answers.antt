-- `edit::changing::sum::sum_within` meets its contract.
use Rattle.numbers.proofs.Prelude.{arith}
use Rattle.edit.proofs.changing.{Sums.{bounded_starts, bounded_over, bounded_goes, bounded_ends}}
use Rattle.edit.proofs.changing.sum.sum_within.Goals as goal

pub loop-length-init : goal.loop-length-init
loop-length-init c =
    bounded_starts _ _

pub overflow_cast-length : goal.overflow_cast-length
overflow_cast-length c =
    omega (arith, c.type_inv.lengths c.loop-length.length-index)

pub overflow_sub-most : goal.overflow_sub-most
overflow_sub-most c =
    c.loop-length.invariant.inside

pub returns-then-most-sum : goal.returns-then-most-sum
returns-then-most-sum c =
    bounded_over _ _ _ _ c.loop-length.invariant c.loop-length-test.true c.if-most-sum.true

pub loop-length-preserved : goal.loop-length-preserved
loop-length-preserved c =
    bounded_goes _ _ _ _ c.loop-length.invariant c.loop-length-test.true c.if-most-sum.false

pub returns : goal.returns
returns c =
    bounded_ends _ _ _ _ c.loop-length.invariant c.loop-length-test.false
