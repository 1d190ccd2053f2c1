-- `index::lists::put_lists` meets its contract. The loop's invariant is `Tiling`.
use Rattle.index.proofs.{Listing.{Tiling}}
use Rattle.index.proofs.lists.put_lists.Given as goal

abbrev pub invariant-loop-t : goal.invariant-loop-t
invariant-loop-t l = Tiling l.initial.index l.precision l.n l.from l.index l.at l.t
