-- `tzif::times::last_not_after` meets its contract. The loop narrows the place between two bounds.
use Rattle.numbers.proofs.Prelude.{arith}
use Rattle.tzif.proofs.{Lasts.{widest, up, down, narrow}, Rises.{rises}}
use Rattle.tzif.specs.Times.{last_not_after}
use Rattle.tzif.proofs.times.last_not_after.Goals as goal

pub loop-low-init : goal.loop-low-init
unfolding last_not_after
loop-low-init c =
    widest _ _ _

pub overflow_sub-middle : goal.overflow_sub-middle
unfolding last_not_after
overflow_sub-middle c =
    omega arith

pub overflow_add-middle : goal.overflow_add-middle
unfolding last_not_after
overflow_add-middle c =
    omega arith

pub time_in-time-requires : goal.time_in-time-requires
unfolding last_not_after
time_in-time-requires c =
    record { inside = c.requires.inside; i_lt_count = omega arith }

pub overflow_add-low : goal.overflow_add-low
unfolding last_not_after
overflow_add-low c =
    omega arith

pub loop-low-smaller-then-time-instant : goal.loop-low-smaller-then-time-instant
unfolding last_not_after
loop-low-smaller-then-time-instant c =
    omega arith

pub loop-low-preserved-then-time-instant : goal.loop-low-preserved-then-time-instant
loop-low-preserved-then-time-instant c =
    up c.loop-low.invariant _ (omega arith) (rw c.time_in-time.ensures at c.if-time-instant.true)

pub loop-low-smaller : goal.loop-low-smaller
unfolding last_not_after
loop-low-smaller c =
    omega arith

pub loop-low-preserved : goal.loop-low-preserved
loop-low-preserved c =
    down c.loop-low.invariant (rises c.requires.rises) _ (omega arith) (omega arith) (rw c.time_in-time.ensures at c.if-time-instant.false)

pub returns : goal.returns
unfolding last_not_after
returns c =
    narrow c.loop-low.invariant c.loop-low-test.false
