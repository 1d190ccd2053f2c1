-- `verdict::edge::between_numbers` meets its contract: what `rising` ensures, twice.
use Rattle.numbers.proofs.Prelude.{w32}
use Rattle.std.proofs.Common.{to_z-of_z}
use Rattle.verdict.specs.Edge.{between}
use Rattle.verdict.proofs.edge.between_numbers.Goals as goal

pub returns-then-rising : goal.returns-then-rising
unfolding between
returns-then-rising c =
    let e = rw (to_z-of_z {w = w32} c.ranges.one, to_z-of_z {w = w32} c.ranges.x, to_z-of_z {w = w32} c.ranges.other) at c.rising.ensures in
    rw (← e, c.if-rising.true)

pub returns-else-rising : goal.returns-else-rising
unfolding between
returns-else-rising c =
    let e = rw (to_z-of_z {w = w32} c.ranges.one, to_z-of_z {w = w32} c.ranges.x, to_z-of_z {w = w32} c.ranges.other) at c.rising.ensures in
    rw (← e, c.if-rising.false) (rw (to_z-of_z {w = w32} c.ranges.one, to_z-of_z {w = w32} c.ranges.x, to_z-of_z {w = w32} c.ranges.other) at
    c.rising-else-rising.ensures)
