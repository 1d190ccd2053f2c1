-- `line::put::put_number` meets its contract.
use Rattle.line.proofs.{Puts.{put_then}}
use Rattle.line.proofs.put.put_number.Goals as goal

pub returns : goal.returns
returns c =
    put_then _ _ c.put-start.ensures c.put_decimal.ensures
