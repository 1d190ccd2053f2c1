-- `builder::grouping::items::hash_item` meets its contract.
use Rattle.builder.proofs.grouping.{Walks.{ItemHash}}
use Rattle.builder.proofs.grouping.items.hash_item.Given as goal

abbrev pub invariant-loop-i : goal.invariant-loop-i
invariant-loop-i l = ItemHash l.starts l.texts l.at l.width l.hash l.i
