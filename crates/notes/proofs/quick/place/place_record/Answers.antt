-- `notes::quick::place::place_record` meets its contract.
use Rattle.numbers.proofs.Prelude.{ap, ◌∙◌, add-one, arith}
use Rattle.notes.specs.Chains.Chains.{word_of}
use Rattle.notes.proofs.quick.{Shared.{own_too, shared_at}}
use Rattle.notes.proofs.quick.place.place_record.Goals as goal

pub returns-in-Some : goal.returns-in-Some
returns-in-Some c =
    shared_at _ _ _ _ _ _ _ _ _ _ c.find.ensures.1 _ (ap word_of c.in-Some.is ∙ add-one c.in-Some.other)

pub returns-in-None : goal.returns-in-None
returns-in-None c =
    own_too _ _ _ _ _ _ _ _ _ _ c.find.ensures.1 (omega (arith, ap word_of c.in-None.is)) _ c.place_own.ensures
