-- `numbers::point::unshuffle` meets its contract.
use Rattle.numbers.proofs.point.{Joined.{joined, joined_fits}}
use Rattle.numbers.proofs.point.unshuffle.Goals as goal

pub overflow_cast-result : goal.overflow_cast-result
overflow_cast-result c =
    joined_fits c.args.w

pub returns : goal.returns
returns c =
    joined c.args.w
