-- `builder::grouping::items::same_item` meets its contract.
use Rattle.numbers.proofs.Prelude.{arith}
use Rattle.builder.proofs.grouping.{Walks.{fewer_inside, same_starts, same_differs, same_goes, same_ends}}
use Rattle.builder.proofs.grouping.items.same_item.Goals as goal

pub returns-then-not-same_at : goal.returns-then-not-same_at
returns-then-not-same_at c =
    same_differs _ _ _ _ _ _ c.loop-i.invariant c.loop-i-test.true _ c.same_at.ensures c.if-not-same_at.true

pub loop-i-preserved : goal.loop-i-preserved
loop-i-preserved c =
    same_goes _ _ _ _ _ _ c.loop-i.invariant c.loop-i-test.true _ c.same_at.ensures c.if-not-same_at.false

pub returns : goal.returns
returns c =
    same_ends _ _ _ _ _ _ c.loop-i.invariant c.loop-i-test.false
