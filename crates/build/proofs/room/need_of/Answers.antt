-- `build::room::need_of` meets its contract.
use Rattle.numbers.proofs.Prelude.{◌+◌, ◌*◌, ◌/◌, length-take-le, sym, arith}
use Rattle.build.proofs.{Rooms.{sum_front, need_is}}
use Rattle.build.proofs.room.need_of.Goals as goal

pub sum_of-behind-requires : goal.sum_of-behind-requires
sum_of-behind-requires c =
    omega (arith, sum_front (c.args.names + 1) (c.args.names + 1 + c.args.names * (c.args.words / 4)) c.args.lengths.now (omega arith), c.requires.3)

pub returns : goal.returns
returns c =
    need_is _ _ _ _ _ c.sum_of-behind.ensures c.sum_of-sum.ensures
