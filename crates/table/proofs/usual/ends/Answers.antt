-- `table::usual::ends` meets its contract, by the byte that it looked at.
use Rattle.table.proofs.usual.{Usual.{ended}}
use Rattle.table.proofs.usual.ends.Goals as goal

pub returns : goal.returns
returns c =
    λ t. ended _ _ c.wide-high.ensures.0 t
