-- `layout::records::least_layout` meets its contract, by the steps that rise and stay under.
use Rattle.numbers.proofs.Prelude.{arith}
use Rattle.layout.proofs.records.{Stepping.{starts, goes_on, grows, fits, too_long}}
use Rattle.layout.proofs.records.least_layout.Goals as goal

pub loop-records-init : goal.loop-records-init
loop-records-init c =
    starts _ _

pub returns-then-next-records : goal.returns-then-next-records
returns-then-next-records c =
    fits _ _ _ c.loop-records.invariant _ c.next_length-next.ensures c.if-next-records.true c.loop-records-test.true

pub loop-records-smaller : goal.loop-records-smaller
loop-records-smaller c =
    let more = grows _ _ _ c.loop-records.invariant _ c.next_length-next.ensures c.if-next-records.false in omega (arith, more, c.loop-records-test.true)

pub loop-records-preserved : goal.loop-records-preserved
loop-records-preserved c =
    goes_on _ _ _ c.loop-records.invariant _ c.next_length-next.ensures

pub returns : goal.returns
returns c =
    too_long _ _ _ c.loop-records.invariant c.loop-records-test.false
