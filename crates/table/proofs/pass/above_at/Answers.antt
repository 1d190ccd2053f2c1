-- `table::pass::above_at` meets its contract, by the four numbers that it read or saw.
use Rattle.numbers.proofs.Prelude.{sym, ◌∙◌, arith}
use Rattle.table.proofs.{pass.{Passing.{bounding}}, usual.Usual.{usual_four}}
use Rattle.table.proofs.pass.above_at.Goals as goal

pub returns-then-is_over : goal.returns-then-is_over
returns-then-is_over c =
    let seen = c.is_over.ensures c.if-is_over.true in
    let four = usual_four _ (omega (arith, c.requires)) seen.there in
    rw c.bounds_at-bounds.ensures (four, seen.above)

pub pair_at-requires-2 : goal.pair_at-requires-2
pair_at-requires-2 c =
    let lower = rw c.in_ok-south.was at c.pair_at.ensures in
    omega (arith, c.requires, lower.0.close, lower.1.close)

pub returns-then-is_above : goal.returns-then-is_above
returns-then-is_above c =
    let lower = rw c.in_ok-south.was at c.pair_at.ensures in
    let upper = rw c.in_ok-north.was at c.pair_at-2.ensures in
    (bounding lower.0 lower.1 upper.0 upper.1 c.bounds_of-bounds.ensures, sym c.is_above.ensures ∙ c.if-is_above.true)
