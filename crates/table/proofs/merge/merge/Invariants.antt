-- `table::merge::merge` meets its contract. The loop's invariant is `Merging`: matches, empty slots, and the hits whose group is still to come.
use Rattle.numbers.proofs.Prelude.{◌*◌, length, ◌≡◌}
use Rattle.table.proofs.{merge.{Merging.{Merging}}}
use Rattle.table.specs.{Hits.{width, slots}}
use Rattle.table.proofs.merge.merge.Given as goal

abbrev pub invariant-loop-i : goal.invariant-loop-i
invariant-loop-i l = Merging (slots l.initial.hits) l.hits l.out l.i × (length l.initial.hits ≡ width * length (slots l.initial.hits))
