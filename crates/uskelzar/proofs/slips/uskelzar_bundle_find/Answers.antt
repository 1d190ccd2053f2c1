-- `uskelzar::slips::uskelzar_bundle_find` meets its contract.
use Rattle.numbers.proofs.{Prelude.{ap, ◌∙◌}, Saying.{beside}}
use Rattle.bundle.{proofs.Theorems.{xored_zero}, specs.Bundle.{find_of}}
use Rattle.uskelzar.specs.Slips.{file_values, reply_spoken}
use Rattle.uskelzar.proofs.slips.uskelzar_bundle_find.Goals as goal

pub returns : goal.returns
returns c =
    beside _ c.speak.ensures c.say.ensures ∙ ap (reply_spoken file_values) (c.find.ensures ∙ ap (find_of c.args.bundle.now) (xored_zero c.args.name.now))
