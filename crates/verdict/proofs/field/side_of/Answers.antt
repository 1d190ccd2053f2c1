-- `verdict::field::side_of` meets its contract.
use Rattle.numbers.proofs.Prelude.{w32}
use Rattle.std.proofs.Common.{to_z-of_z}
use Rattle.verdict.proofs.{Gliding.{beside_above, beside_below}}
use Rattle.verdict.proofs.field.side_of.Goals as goal

pub returns-then-x-other : goal.returns-then-x-other
returns-then-x-other c =
    rw (to_z-of_z {w = w32} c.ranges.x) (beside_above _ _)

pub returns : goal.returns
returns c =
    rw (to_z-of_z {w = w32} c.ranges.x) (beside_below _ _)
