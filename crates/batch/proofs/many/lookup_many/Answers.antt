-- `batch::many::lookup_many` meets its contract: there is no atlas.
use Rattle.batch.specs.Many.{looked_up_many}
use Rattle.batch.proofs.many.lookup_many.Goals as goal

pub returns : goal.returns
unfolding looked_up_many
returns c =
    c.many_atlas.ensures
