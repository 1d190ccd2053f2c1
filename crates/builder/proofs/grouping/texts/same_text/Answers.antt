-- `builder::grouping::texts::same_text` meets its contract.
use Rattle.numbers.proofs.Prelude.{◌∙◌}
use Rattle.builder.proofs.grouping.{Walks.{same_pairs}}
use Rattle.builder.proofs.grouping.texts.same_text.Goals as goal

pub returns : goal.returns
returns c =
    c.eq.ensures ∙ same_pairs _ _
