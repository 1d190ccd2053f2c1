-- `index::lists::put_list` meets its contract. The loop's invariant is `Going`.
use Rattle.index.proofs.{Listing.{Going}}
use Rattle.index.proofs.lists.put_list.Given as goal

abbrev pub invariant-loop-k : goal.invariant-loop-k
invariant-loop-k l = Going l.initial.index l.tile l.n l.from l.index l.at l.k
