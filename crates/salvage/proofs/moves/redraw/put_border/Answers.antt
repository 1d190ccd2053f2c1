-- `salvage::moves::redraw::put_border` meets its contract.
use Rattle.salvage.proofs.moves.{Again.{plain_drawn}}
use Rattle.salvage.proofs.moves.redraw.put_border.Goals as goal

pub returns-in-Plain : goal.returns-in-Plain
returns-in-Plain c =
    plain_drawn _ _ _ _ _ _ _ c.in-Plain.is c.put_plain.ensures
