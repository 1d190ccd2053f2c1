-- `table::rest::rest_mark` meets its contract: before each entry the rest from its place on has the mark of the whole rest.
use Rattle.numbers.{proofs.{Prelude.{◌-◌, ◌≤◌, ◌≡◌}}, specs.Varint.{reading_of}}
use Rattle.table.proofs.{rest.{Remaining.{rest_from}}}
use Rattle.table.proofs.rest.rest_mark.Given as goal

abbrev pub invariant-loop-place : goal.invariant-loop-place
invariant-loop-place l = (l.from ≤ l.end) × (rest_from (reading_of l.strict l.file) l.end l.fix l.place ≡ rest_from (reading_of l.strict l.file) l.end l.fix l.from)

abbrev pub decreases-loop-place : goal.decreases-loop-place
decreases-loop-place l = l.end - l.place
