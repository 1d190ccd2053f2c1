-- `edit::replacing::put::take_back` meets its contract.
use Rattle.edit.proofs.replacing.{Answered.{back_into, back_refused}}
use Rattle.edit.proofs.replacing.put.take_back.Goals as goal

pub returns-in-Ok : goal.returns-in-Ok
returns-in-Ok c =
    back_into _ _ c.in-Ok.is _ _ _ _ _

pub returns-in-Err : goal.returns-in-Err
returns-in-Err c =
    back_refused _ _ c.in-Err.is _ _ _ _ _ _ _ _ c.put_in.ensures
