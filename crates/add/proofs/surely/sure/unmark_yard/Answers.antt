-- `add::surely::sure::unmark_yard` meets its contract.
use Rattle.numbers.proofs.Prelude.{◌+◌, ◌*◌, length, refl}
use Rattle.draft.proofs.held.Fronts.{cleared}
use Rattle.add.proofs.surely.sure.unmark_yard.Goals as goal

pub returns : goal.returns
returns c =
    cleared 0 c.args.marks.now _ (c.args.builder.yards * c.args.builder.names + 1) (length c.args.marks.now) refl c.zero_words.ensures
