-- `table::pass::skip_over` meets its contract: the loop's invariant is the contract itself.
use Rattle.numbers.proofs.Prelude.{arith}
use Rattle.table.proofs.pass.{Passing.{rest_stays, skips, skips_less}}
use Rattle.table.proofs.pass.skip_over.Goals as goal

pub returns-then-file-lt-LONGEST : goal.returns-then-file-lt-LONGEST
returns-then-file-lt-LONGEST c =
    rest_stays _

pub loop-place-init : goal.loop-place-init
loop-place-init c =
    rest_stays _

pub skip_row-requires : goal.skip_row-requires
skip_row-requires c =
    omega (arith, c.loop-place-test.true, c.lesser-stop.ensures.1, c.if-file-lt-LONGEST.false)

pub returns-in_default : goal.returns-in_default
returns-in_default c =
    c.loop-place.invariant

pub returns-then-end-next : goal.returns-then-end-next
returns-then-end-next c =
    c.loop-place.invariant

pub loop-place-smaller : goal.loop-place-smaller
loop-place-smaller c =
    skips_less (omega (arith, c.loop-place-test.true, c.lesser-stop.ensures.0)) (rw c.in-Some.is at c.skip_row.ensures)

pub loop-place-preserved : goal.loop-place-preserved
loop-place-preserved c =
    skips (omega (arith, c.loop-place-test.true, c.lesser-stop.ensures.0)) (rw c.in-Some.is at c.skip_row.ensures) c.if-end-next.false c.loop-place.invariant

pub returns : goal.returns
returns c =
    c.loop-place.invariant
