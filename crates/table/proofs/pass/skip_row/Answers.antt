-- `table::pass::skip_row` meets its contract, by the box and the two steps behind it.
use Rattle.numbers.proofs.Prelude.{arith}
use Rattle.table.proofs.pass.{Passing.{four_close, skipped_row}}
use Rattle.table.proofs.pass.skip_row.Goals as goal

pub pair_at-requires : goal.pair_at-requires
pair_at-requires c =
    let box = rw c.in_ok-above.was at c.above_at.ensures in
    omega (arith, c.requires, four_close box.0)

pub returns : goal.returns
returns c =
    let box = rw c.in_ok-above.was at c.above_at.ensures in
    let steps = rw c.in_ok-polygon.was at c.pair_at.ensures in
    skipped_row box.0 steps.0 steps.1 _ box.1
