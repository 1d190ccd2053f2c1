-- `verdict::distance::to_vertex` meets its contract: what its calls ensure; the squares of two i32 fit.
use Rattle.numbers.proofs.{Prelude.{rules, ◌-ℤ◌, ◌≡◌, ap, ◌∙◌, w32, SFits, to_z-of_z}, write.Gaps.{widened}}
use Rattle.std.proofs.Common.{◌*ℤ◌}
use Rattle.verdict.proofs.{Checks.{checked_fits}, Halts.{exits, goes_on, tested, tested_fits}, Squares.{i32_squared}}
use Rattle.verdict.specs.{Distance.{squared, to_vertex}, Step.{found}}
use Rattle.verdict.proofs.distance.to_vertex.Goals as goal

pub returns-in_err-lat : goal.returns-in_err-lat
unfolding to_vertex
returns-in_err-lat c =
    let x : SFits w32 c.args.to.lat.0 = search rules in
    let y : SFits w32 c.args.fix.lat.0 = search rules in
    let lat = rw (to_z-of_z w32 _ x, to_z-of_z w32 _ y) at c.checked_sub.ensures in
    exits c.from_residual.result c.in_err-lat.was (tested (c.args.to.lat.0 -ℤ c.args.fix.lat.0) c.checked_sub.result lat c.ok_or.ensures.value) c.from_residual.ensures.1 _

pub returns-in_err-lon : goal.returns-in_err-lon
unfolding to_vertex
returns-in_err-lon c =
    let x : SFits w32 c.args.to.lat.0 = search rules in
    let y : SFits w32 c.args.fix.lat.0 = search rules in
    let lat = rw (to_z-of_z w32 _ x, to_z-of_z w32 _ y) at c.checked_sub.ensures in
    let u : SFits w32 c.args.to.lon.0 = search rules in
    let v : SFits w32 c.args.fix.lon.0 = search rules in
    let lon = rw (to_z-of_z w32 _ u, to_z-of_z w32 _ v) at c.checked_sub-2.ensures in
    exits c.from_residual-in_err-lon.result c.in_err-lon.was (tested (c.args.to.lon.0 -ℤ c.args.fix.lon.0) c.checked_sub-2.result lon c.ok_or-2.ensures.value) c.from_residual-in_err-lon.ensures.1 _
    ∙ goes_on c.ok_or.result (tested (c.args.to.lat.0 -ℤ c.args.fix.lat.0) c.checked_sub.result lat c.ok_or.ensures.value) c.in_ok-lat.was _

pub returns : goal.returns
unfolding squared to_vertex
returns c =
    let x : SFits w32 c.args.to.lat.0 = search rules in
    let y : SFits w32 c.args.fix.lat.0 = search rules in
    let lat = rw (to_z-of_z w32 _ x, to_z-of_z w32 _ y) at c.checked_sub.ensures in
    let u : SFits w32 c.args.to.lon.0 = search rules in
    let v : SFits w32 c.args.fix.lon.0 = search rules in
    let lon = rw (to_z-of_z w32 _ u, to_z-of_z w32 _ v) at c.checked_sub-2.ensures in
    let north = tested_fits (c.args.to.lat.0 -ℤ c.args.fix.lat.0) c.checked_sub.result lat c.ok_or.ensures.value c.in_ok-lat.was in
    let east = tested_fits (c.args.to.lon.0 -ℤ c.args.fix.lon.0) c.checked_sub-2.result lon c.ok_or-2.ensures.value c.in_ok-lon.was in
    let f = i32_squared c.in_ok-lat.lat north in
    let g = i32_squared c.in_ok-lon.lon east in
    let here : found c.sum_of_squares.result ≡ squared c.in_ok-lat.lat c.in_ok-lon.lon = rw (
      checked_fits 63 (c.in_ok-lat.lat *ℤ c.in_ok-lat.lat) f,
      checked_fits 63 (c.in_ok-lon.lon *ℤ c.in_ok-lon.lon) g,
    ) (ap found (rw (widened north, widened east) at c.sum_of_squares.ensures)) in
    here ∙ goes_on c.ok_or-2.result (tested (c.args.to.lon.0 -ℤ c.args.fix.lon.0) c.checked_sub-2.result lon c.ok_or-2.ensures.value) c.in_ok-lon.was (squared c.in_ok-lat.lat)
    ∙ goes_on c.ok_or.result (tested (c.args.to.lat.0 -ℤ c.args.fix.lat.0) c.checked_sub.result lat c.ok_or.ensures.value) c.in_ok-lat.was _
