use Rattle.numbers.proofs.Prelude.{sfits_of, ◌∙◌, w32, to_z-of_z}
use Rattle.office.proofs.{Drafts.{held_made}}
use Rattle.office.specs.Draft.{held_of}
use Rattle.office.proofs.calls.state_of.Goals as goal

pub returns : goal.returns
unfolding held_of
returns c =
    held_made c.args.words _ (to_z-of_z w32 _ (sfits_of c.signed.type_inv) ∙ c.signed.ensures)
