-- `edit::replacing::replace::replace` meets its contract.
use Rattle.numbers.{proofs.Prelude.{ap, ◌∙◌}, specs.Lists.{zeros}}
use Rattle.draft.proofs.summed.Resting.{idle_as}
use Rattle.edit.proofs.replacing.replace.replace.Goals as goal

pub returns : goal.returns
returns c = (
  c.change-changed.ensures,
  idle_as _ _ _ c.starts-1.given c.keys-1.given c.spare-1.given c.kept-1.given c.held-1.given c.words-1.given c.places-1.given
      c.rest.ensures.0,
  c.rest.ensures.1 ∙ ap zeros c.out-1.given,
)
