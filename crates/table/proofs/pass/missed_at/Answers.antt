-- `table::pass::missed_at` meets its contract, by the four numbers that it read or saw.
use Rattle.numbers.proofs.Prelude.{sym, ◌∙◌, arith}
use Rattle.table.proofs.{pass.{Passing.{lons, bounding}}, usual.Usual.{usual_four}}
use Rattle.table.proofs.pass.missed_at.Goals as goal

pub returns-then-is_under : goal.returns-then-is_under
returns-then-is_under c =
    let seen = c.is_under.ensures c.if-is_under.true in
    let four = usual_four _ (omega (arith, c.requires)) seen.there in
    rw c.bounds_at-bounds.ensures (four, seen.low, seen.missed)

pub pair_at-requires-2 : goal.pair_at-requires-2
pair_at-requires-2 c =
    let lower = rw c.in_ok-south.was at c.pair_at.ensures in
    omega (arith, c.requires, lower.0.close, lower.1.close)

pub may_hold-requires : goal.may_hold-requires
may_hold-requires c =
    let lower = rw c.in_ok-south.was at c.pair_at.ensures in
    let upper = rw c.in_ok-north.was at c.pair_at-2.ensures in
    lons lower.0 lower.1 upper.0 upper.1 c.bounds_of-bounds.ensures c.requires

pub returns : goal.returns
returns c =
    let lower = rw c.in_ok-south.was at c.pair_at.ensures in
    let upper = rw c.in_ok-north.was at c.pair_at-2.ensures in
    let low = sym c.is_above.ensures ∙ c.if-is_above.false in
    (bounding lower.0 lower.1 upper.0 upper.1 c.bounds_of-bounds.ensures, low, c.may_hold.ensures c.if-may_hold.false)
