-- `builder::grouping::items::hash_at` meets its contract.
use Rattle.numbers.proofs.Prelude.{◌+◌, arith}
use Rattle.builder.specs.Grouping.Items.{text_at}
use Rattle.builder.proofs.grouping.items.hash_at.Goals as goal

pub returns : goal.returns
unfolding text_at
returns c =
    c.hash_text.ensures
