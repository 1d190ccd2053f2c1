-- `table::pass::pass_row` meets its contract, by the box and the two steps behind it.
use Rattle.numbers.proofs.Prelude.{arith}
use Rattle.table.proofs.pass.{Passing.{four_close, passed}}
use Rattle.table.proofs.pass.pass_row.Goals as goal

pub pair_at-requires : goal.pair_at-requires
pair_at-requires c =
    let box = rw c.in_ok-missed.was at c.missed_at.ensures in
    omega (arith, c.requires, four_close box.0)

pub returns : goal.returns
returns c =
    let box = rw c.in_ok-missed.was at c.missed_at.ensures in
    let steps = rw c.in_ok-metadata.was at c.pair_at.ensures in
    passed _ box.0 steps.0 steps.1 _ box.1 box.2 c.row_of-row.ensures c.after.ensures
