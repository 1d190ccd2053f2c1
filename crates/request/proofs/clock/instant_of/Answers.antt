-- `request::clock::instant_of` meets its contract.
use Rattle.numbers.proofs.Prelude.{◌∙◌, w64, to_z-of_z}
use Rattle.request.proofs.{Times.{instant_fits, instant_is}}
use Rattle.request.proofs.clock.instant_of.Goals as goal

pub returns : goal.returns
returns c =
    to_z-of_z w64 _ (instant_fits c.args.day c.args.second c.requires.0 c.requires.1) ∙ instant_is c.args.day c.args.second c.requires.0 c.requires.1
