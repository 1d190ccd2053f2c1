-- `table::pass::pair_at` meets its contract, by the two numbers that it read.
use Rattle.numbers.proofs.Prelude.{arith}
use Rattle.table.proofs.pass.pair_at.Goals as goal

pub short_at-requires-2 : goal.short_at-requires-2
short_at-requires-2 c =
    let first = rw c.in_ok-first.was at c.short_at.ensures in
    omega (arith, c.requires, first.close)

pub returns : goal.returns
returns c =
    let first = rw c.in_ok-first.was at c.short_at.ensures in
    let second = rw c.in_ok-second.was at c.short_at-2.ensures in
    (first, second)
