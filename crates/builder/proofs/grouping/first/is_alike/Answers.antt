-- `builder::grouping::first::is_alike` meets its contract.
use Rattle.numbers.proofs.Prelude.{arith}
use Rattle.builder.specs.Grouping.Keys.{alike}
use Rattle.builder.proofs.grouping.{Walks.{fewer_inside, item_among}}
use Rattle.builder.proofs.grouping.first.is_alike.Goals as goal

pub returns : goal.returns
unfolding alike
returns c =
    c.same_item.ensures
