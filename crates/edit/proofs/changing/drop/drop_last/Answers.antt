-- `edit::changing::drop::drop_last` meets its contract.
use Rattle.draft.proofs.summed.Resting.{idle_as}
use Rattle.edit.proofs.changing.drop.drop_last.Goals as goal

pub returns : goal.returns
returns c = (
  c.drop_yard-dropped.ensures,
  idle_as _ _ _ c.starts-1.given c.keys-1.given c.spare-1.given c.kept-1.given c.held-1.given c.words-1.given c.places-1.given
      c.rest_work.ensures,
)
