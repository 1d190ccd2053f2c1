-- `atlas::build::put_behind` meets its contract.
use Rattle.atlas.proofs.{Behind.{behind_put}}
use Rattle.atlas.proofs.build.put_behind.Goals as goal

pub returns : goal.returns
returns c =
    behind_put c.args.file.now c.args.head c.args.words.now c.wide-n.ensures.0 c.put_beside-all.ensures c.low_of.ensures c.put.ensures
