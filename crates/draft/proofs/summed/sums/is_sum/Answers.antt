-- `draft::summed::sums::is_sum` meets its contract.
use Rattle.numbers.proofs.Prelude.{arith}
use Rattle.draft.proofs.summed.{Taken.{take_starts, take_goes, take_stops, take_ends}}
use Rattle.draft.proofs.summed.sums.is_sum.Goals as goal

pub returns-then-left-length : goal.returns-then-left-length
returns-then-left-length c =
    take_stops _ _ _ _ c.loop-length.invariant c.loop-length-test.true c.if-left-length.true

pub loop-length-preserved : goal.loop-length-preserved
loop-length-preserved c =
    take_goes _ _ _ _ c.loop-length.invariant c.loop-length-test.true c.if-left-length.false

pub returns : goal.returns
returns c =
    take_ends _ _ _ _ c.loop-length.invariant c.loop-length-test.false
