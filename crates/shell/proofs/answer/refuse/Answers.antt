-- `shell::answer::refuse` meets its contract.
use Rattle.shell.proofs.{Answering.{passed_over, said_why}}
use Rattle.shell.proofs.answer.refuse.Goals as goal

pub returns-then-why-eq83 : goal.returns-then-why-eq83
returns-then-why-eq83 c =
    passed_over _ c.requires c.if-why-eq83.true

pub returns : goal.returns
returns c =
    said_why _ _ c.requires c.if-why-eq83.false c.put_reason-size.ensures
