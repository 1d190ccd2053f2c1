-- `builder::grouping::items::hash_item` meets its contract.
use Rattle.numbers.proofs.Prelude.{arith}
use Rattle.builder.proofs.grouping.{Walks.{fewer_inside, item_starts, item_goes, item_ends}}
use Rattle.builder.proofs.grouping.items.hash_item.Goals as goal

pub loop-i-preserved : goal.loop-i-preserved
loop-i-preserved c =
    item_goes _ _ _ _ _ _ c.loop-i.invariant c.loop-i-test.true _ c.hash_at-hash.ensures

pub returns : goal.returns
returns c =
    item_ends _ _ _ _ _ _ c.loop-i.invariant c.loop-i-test.false
