-- `edit::changing::clear::emptied` meets its contract.
use Rattle.numbers.proofs.Prelude.{refl}
use Rattle.edit.specs.Changing.Emptied.{emptied_of}
use Rattle.edit.proofs.changing.clear.emptied.Goals as goal

pub returns : goal.returns
unfolding emptied_of
returns c =
    refl
