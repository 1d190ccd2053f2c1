-- `zones::simple::name_of` meets its contract, by how far it came.
use Rattle.numbers.proofs.Replies.{passed_on}
use Rattle.zones.proofs.simple.{Naming.{not_picked, no_one, no_two, both_picked}}
use Rattle.zones.proofs.simple.name_of.Goals as goal

pub returns-in_err-picked : goal.returns-in_err-picked
returns-in_err-picked c =
    rw (passed_on _ c.from_residual.ensures.1) (not_picked _ _ _ _ c.fields_place.ensures c.pick.ensures c.in_err-picked.was)

pub returns-in_default : goal.returns-in_default
returns-in_default c =
    no_one _ _ _ _ c.fields_place.ensures c.pick.ensures c.in_ok-picked.was c.in_default.is

pub returns-in_default-two : goal.returns-in_default-two
returns-in_default-two c =
    no_two _ _ _ _ c.fields_place.ensures c.pick.ensures c.in_ok-picked.was c.in-Some.is c.in_default-two.is

pub returns : goal.returns
returns c =
    both_picked _ _ _ _ c.fields_place.ensures c.pick.ensures c.in_ok-picked.was c.in-Some.is c.in-Some-two.is
