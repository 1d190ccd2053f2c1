-- `verdict::judge::step_of` meets its contract: in each arm the step is that arm's.
use Rattle.verdict.specs.inner.Walk.{step_of}
use Rattle.verdict.proofs.judge.step_of.Goals as goal

pub returns-in-Ok : goal.returns-in-Ok
unfolding step_of
returns-in-Ok c =
    rw c.in-Ok.is

pub returns-in-Err-Unread : goal.returns-in-Err-Unread
unfolding step_of
returns-in-Err-Unread c =
    rw (c.in-Err-Unread.is, rw c.in-Err-Unread.is at c.in-Err-Unread.field-0-is)

pub returns-in-Err-Halted : goal.returns-in-Err-Halted
unfolding step_of
returns-in-Err-Halted c =
    rw (c.in-Err-Halted.is, rw c.in-Err-Halted.is at c.in-Err-Halted.field-0-is)
