-- `table::merge::gather` meets its contract. The loop's invariant is `Gathering`: of the slots from `from` on, those passed are cleared and tallied.
use Rattle.numbers.proofs.Prelude.{◌*◌, length, ◌≡◌}
use Rattle.table.proofs.{merge.{Gathering.{Gathering}}}
use Rattle.table.specs.Hits.{width, slots}
use Rattle.table.proofs.merge.gather.Given as goal

abbrev pub invariant-loop-j : goal.invariant-loop-j
invariant-loop-j l = Gathering (slots l.initial.hits) l.from l.id l.hits l.t l.j × (length l.initial.hits ≡ width * length (slots l.initial.hits))
