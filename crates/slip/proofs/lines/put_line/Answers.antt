-- `slip::lines::put_line` meets its contract.
use Rattle.slip.proofs.{Zones.{inked}}
use Rattle.slip.proofs.lines.put_line.Goals as goal

pub returns : goal.returns
returns c =
    inked _ c.put_clock-next.ensures c.put_zones.ensures
