-- `builder::grouping::items::same_at` meets its contract.
use Rattle.numbers.proofs.Prelude.{◌+◌, arith}
use Rattle.builder.specs.Grouping.Items.{text_at}
use Rattle.builder.proofs.grouping.items.same_at.Goals as goal

pub returns : goal.returns
unfolding text_at
returns c =
    c.same_text.ensures
