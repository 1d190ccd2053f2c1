-- `builder::grouping::texts::hash_byte` meets its contract.
use Rattle.numbers.proofs.Prelude.{refl}
use Rattle.builder.specs.Grouping.Items.{hash_byte}
use Rattle.builder.proofs.grouping.texts.hash_byte.Goals as goal

pub returns : goal.returns
unfolding hash_byte
returns c =
    refl
