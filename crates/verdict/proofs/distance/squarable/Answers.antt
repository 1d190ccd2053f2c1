-- `verdict::distance::squarable` meets its contract: the range of the numbers whose squares fit.
use Rattle.numbers.proofs.Prelude.{w64}
use Rattle.std.proofs.Common.{to_z-of_z}
use Rattle.verdict.proofs.{Squares.{square_test}}
use Rattle.verdict.proofs.distance.squarable.Goals as goal

pub returns-then-difference-geminus3037000499 : goal.returns-then-difference-geminus3037000499
returns-then-difference-geminus3037000499 c =
    let read = to_z-of_z {w = w64} c.ranges.difference in
    rw read (rw (rw read at c.if-difference-geminus3037000499.true) at (square_test c.args.difference))

pub returns-else-difference-geminus3037000499 : goal.returns-else-difference-geminus3037000499
returns-else-difference-geminus3037000499 c =
    let read = to_z-of_z {w = w64} c.ranges.difference in
    let below = rw read at c.if-difference-geminus3037000499.false in
    rw (read, below) (rw below at (square_test c.args.difference))
