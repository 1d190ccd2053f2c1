-- `tzif::local::clear` meets its contract.
use Rattle.numbers.proofs.Prelude.{length, ◌∙◌}
use Rattle.tzif.proofs.Locals.{all_zeros}
use Rattle.tzif.proofs.local.clear.Goals as goal

pub returns : goal.returns
returns c =
    c.lend.ensures ∙ all_zeros (length c.args.text.now)
