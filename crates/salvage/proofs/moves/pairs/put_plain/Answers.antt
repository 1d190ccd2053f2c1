-- `salvage::moves::pairs::put_plain` meets its contract.
use Rattle.salvage.proofs.moves.{Plain.{count_stops, count_goes}}
use Rattle.salvage.proofs.moves.pairs.put_plain.Goals as goal

pub returns-in_default : goal.returns-in_default
returns-in_default c =
    count_stops _ _ _ _ _ _ _ (rw c.in_default.is at c.read_number.ensures)

pub returns : goal.returns
returns c =
    count_goes _ _ _ _ _ _ (rw c.in-Ok.is at c.read_number.ensures) c.put_number-next.ensures c.put_pairs.ensures
