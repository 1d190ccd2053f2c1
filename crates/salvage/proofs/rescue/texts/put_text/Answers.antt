-- `salvage::rescue::texts::put_text` meets its contract.
use Rattle.salvage.proofs.{moves.Capping.{capped_then}}
use Rattle.salvage.specs.inner.Rescue.Texts.{text_bytes}
use Rattle.salvage.proofs.rescue.texts.put_text.Goals as goal

pub returns : goal.returns
unfolding text_bytes
returns c =
    capped_then _ _ c.put_number-next.ensures c.put_span.ensures
