-- `localtime::found::found_of` meets its contract.
use Rattle.numbers.proofs.Prelude.{sfits_of, ◌∙◌, w32, to_z-of_z}
use Rattle.localtime.proofs.found.{Ways.{found_is}}
use Rattle.localtime.proofs.found.found_of.Goals as goal

pub returns : goal.returns
returns c =
    found_is _ (to_z-of_z w32 _ (sfits_of c.east_of-offset.type_inv) ∙ c.east_of-offset.ensures)
