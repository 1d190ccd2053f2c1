-- `slip::lines::put_name` meets its contract.
use Rattle.line.proofs.Puts.{put_as, put_then}
use Rattle.slip.proofs.{Parts.{parts_shown}}
use Rattle.slip.proofs.lines.put_name.Goals as goal

pub returns : goal.returns
returns c =
    put_as (parts_shown c.args.map.now c.args.name) (put_then _ _ c.put_shown-next.ensures c.put_shown.ensures)
