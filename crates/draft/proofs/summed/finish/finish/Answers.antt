-- `draft::summed::finish::finish` meets its contract.
use Rattle.draft.proofs.summed.{Finishing.{settled_ends, settled_refused, settled_zero}, Resting.{idle_as}}
use Rattle.draft.proofs.summed.finish.finish.Goals as goal

pub returns : goal.returns
returns c = (
  record {
    answers = λ b h. settled_ends _ _ _ _ _ _ c.out-1.given (c.fill-built.ensures.0 b h) c.settle.ensures;
    broken = λ e. settled_refused _ _ _ _ _
        (c.fill-built.ensures.1 e) c.settle.ensures;
    emptied = λ why e. settled_zero _ _ _ _ _ why c.out-1.given c.settle.ensures e;
  },
  idle_as _ _ _ c.starts-1.given
      c.keys-1.given c.spare-1.given c.kept-1.given c.held-1.given c.words-1.given c.places-1.given c.rest_work.ensures,
)
