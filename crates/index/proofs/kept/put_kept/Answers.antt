-- `index::kept::put_kept` meets its contract. The loop's invariant is `Keeping`.
use Rattle.index.proofs.{Keeping.{keeping_step, keeping_ends}, Stores.{same_word}}
use Rattle.index.proofs.kept.put_kept.Goals as goal

pub loop-place-preserved : goal.loop-place-preserved
loop-place-preserved c =
    keeping_step c.loop-place.invariant c.loop-place-test.true (same_word c.four_at.ensures c.put-at.ensures)

pub returns : goal.returns
returns c =
    keeping_ends c.loop-place.invariant c.loop-place-test.false
