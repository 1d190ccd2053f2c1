-- `table::search::judge` meets its contract.
use Rattle.table.proofs.search.{Turns.{judged_in}}
use Rattle.table.proofs.search.judge.Goals as goal

pub returns : goal.returns
returns c =
    judged_in c.args.file.now c.args.head c.args.fix c.args.asked c.args.polygon c.args.least c.version_of.ensures c.wrapping_add_u32-place.ensures.value
    c.point_in_polygon.ensures
