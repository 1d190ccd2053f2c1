-- `builder::grouping::items::same_item` meets its contract.
use Rattle.builder.proofs.grouping.{Walks.{ItemSame}}
use Rattle.builder.proofs.grouping.items.same_item.Given as goal

abbrev pub invariant-loop-i : goal.invariant-loop-i
invariant-loop-i l = ItemSame l.starts l.texts l.a l.b l.width l.i
