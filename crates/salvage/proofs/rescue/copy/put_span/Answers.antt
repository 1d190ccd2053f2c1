-- `salvage::rescue::copy::put_span` meets its contract.
use Rattle.salvage.proofs.rescue.copy.{Copying.{copies_go}}
use Rattle.salvage.proofs.rescue.copy.put_span.Goals as goal

pub loop-left-preserved : goal.loop-left-preserved
loop-left-preserved c =
    copies_go _ _ _ _ _ c.loop-left.invariant c.loop-left-test.true c.if-file-here.false c.put_byte-next.ensures
