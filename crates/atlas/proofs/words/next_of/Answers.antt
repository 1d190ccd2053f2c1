-- `atlas::words::next_of` meets its contract, by the run's cases.
use Rattle.marks.specs.Marks.{next_of}
use Rattle.atlas.proofs.words.next_of.Goals as goal

pub returns-in-Idle : goal.returns-in-Idle
unfolding next_of
returns-in-Idle c =
    rw c.in-Idle.is

pub returns-in-Forward : goal.returns-in-Forward
unfolding next_of
returns-in-Forward c =
    rw c.in-Forward.is

pub returns-in-Backward : goal.returns-in-Backward
unfolding next_of
returns-in-Backward c =
    rw c.in-Backward.is
