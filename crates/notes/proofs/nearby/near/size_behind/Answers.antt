-- `notes::nearby::near::size_behind` meets its contract.
use Rattle.numbers.proofs.Prelude.{ap}
use Rattle.notes.specs.Chains.Chains.{word_of}
use Rattle.notes.proofs.nearby.{Grown.{size_none, size_some}}
use Rattle.notes.proofs.nearby.near.size_behind.Goals as goal

pub returns-in_default : goal.returns-in_default
returns-in_default c =
    size_none _ _ _ _ _ (ap word_of c.in_default.is)

pub returns : goal.returns
returns c =
    size_some _ _ _ _ _ _ (ap word_of c.in-Some.is) _ c.box_at.ensures _ c.places_of.ensures _ c.entry_size.ensures
