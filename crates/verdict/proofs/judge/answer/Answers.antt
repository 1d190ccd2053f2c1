-- `verdict::judge::answer` meets its contract: in each arm the answer is that arm's.
use Rattle.verdict.specs.inner.Walk.{judgement_of}
use Rattle.verdict.proofs.judge.answer.Goals as goal

pub returns-in-Ok : goal.returns-in-Ok
unfolding judgement_of
returns-in-Ok c =
    rw c.in-Ok.is c.closed.ensures

pub returns-in-Err-Unread : goal.returns-in-Err-Unread
unfolding judgement_of
returns-in-Err-Unread c =
    rw (c.in-Err-Unread.is, rw c.in-Err-Unread.is at c.in-Err-Unread.field-0-is) c.unread.ensures

pub returns-in-Err-Halted : goal.returns-in-Err-Halted
unfolding judgement_of
returns-in-Err-Halted c =
    rw (c.in-Err-Halted.is, rw c.in-Err-Halted.is at c.in-Err-Halted.field-0-is) c.halted.ensures
