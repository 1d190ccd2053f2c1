-- `table::pass::pass_over` meets its contract: the loop's invariant is the contract itself.
use Rattle.numbers.proofs.Prelude.{arith}
use Rattle.table.proofs.pass.{Passing.{stays, passes, passes_less}}
use Rattle.table.proofs.pass.pass_over.Goals as goal

pub returns-then-file-lt-LONGEST : goal.returns-then-file-lt-LONGEST
returns-then-file-lt-LONGEST c =
    stays _

pub loop-at-init : goal.loop-at-init
loop-at-init c =
    stays _

pub pass_row-requires : goal.pass_row-requires
pass_row-requires c =
    omega (arith, c.loop-at-test.true, c.lesser-stop.ensures.1, c.if-file-lt-LONGEST.false)

pub returns-in_default : goal.returns-in_default
returns-in_default c =
    c.loop-at.invariant

pub loop-at-smaller : goal.loop-at-smaller
loop-at-smaller c =
    passes_less (omega (arith, c.loop-at-test.true, c.lesser-stop.ensures.0)) (rw c.in-Some.is at c.pass_row.ensures)

pub loop-at-preserved : goal.loop-at-preserved
loop-at-preserved c =
    passes (omega (arith, c.loop-at-test.true, c.lesser-stop.ensures.0)) (rw c.in-Some.is at c.pass_row.ensures) c.loop-at.invariant

pub returns : goal.returns
returns c =
    c.loop-at.invariant
