-- `builder::head::put_head` meets its contract.
use Rattle.writer.proofs.Stores.{stored_then}
use Rattle.builder.specs.File.{head_from}
use Rattle.builder.proofs.head.put_head.Goals as goal

pub returns : goal.returns
unfolding head_from
returns c =
    stored_then _ _ c.put_bytes-next.ensures c.put_texts.ensures
