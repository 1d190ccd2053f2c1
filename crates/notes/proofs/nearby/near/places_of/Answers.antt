-- `notes::nearby::near::places_of` meets its contract.
use Rattle.numbers.proofs.Prelude.{ap}
use Rattle.notes.specs.Chains.Chains.{word_of}
use Rattle.notes.proofs.nearby.{Grown.{places_none, places_some}}
use Rattle.notes.proofs.nearby.near.places_of.Goals as goal

pub returns-in-Some : goal.returns-in-Some
returns-in-Some c =
    places_some _ _ _ _ (ap word_of c.in-Some.is)

pub returns-in-None : goal.returns-in-None
returns-in-None c =
    places_none _ _ _ (ap word_of c.in-None.is)
