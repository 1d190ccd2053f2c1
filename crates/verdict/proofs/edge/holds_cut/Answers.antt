-- `verdict::edge::holds_cut` meets its contract: the two tests, of the coordinates that `to_i32` cuts.
use Rattle.numbers.proofs.Prelude.{rules, ◌≡◌, w32, of_z, to_z}
use Rattle.verdict.specs.Edge.{in_box}
use Rattle.verdict.proofs.edge.holds_cut.Goals as goal

pub returns-then-lat_between : goal.returns-then-lat_between
unfolding in_box
returns-then-lat_between c =
    let x = c.to_i32.result in
    let y = c.to_i32-then-lat_between.result in
    let p : to_z w32 (of_z w32 x) ≡ x = search rules in
    let q : to_z w32 (of_z w32 y) ≡ y = search rules in
    rw (← rw (p, c.to_i32.ensures) at c.lat_between.ensures, c.if-lat_between.true) (rw (q, c.to_i32-then-lat_between.ensures) at c.lon_between.ensures)

pub returns-else-lat_between : goal.returns-else-lat_between
unfolding in_box
returns-else-lat_between c =
    let x = c.to_i32.result in
    let p : to_z w32 (of_z w32 x) ≡ x = search rules in
    rw (← rw (p, c.to_i32.ensures) at c.lat_between.ensures, c.if-lat_between.false)
