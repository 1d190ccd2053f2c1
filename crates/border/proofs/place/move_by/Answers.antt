-- `border::place::move_by` meets its contract.
use Rattle.numbers.proofs.{Laws.{exits, goes_on}, Prelude.{◌+ℤ◌, ◌∙◌, rules, w32, SFits, to_z-of_z}}
use Rattle.border.proofs.place.Ranged.{tested, tested_fits}
use Rattle.border.specs.Place.{moved_by}
use Rattle.border.proofs.place.move_by.Goals as goal

pub returns-in_err-lat : goal.returns-in_err-lat
unfolding moved_by
returns-in_err-lat c =
    let a : SFits w32 c.args.p.lat.0 = search rules in
    let b : SFits w32 c.args.by.lat = search rules in
    let lat = rw (to_z-of_z w32 _ a, to_z-of_z w32 _ b) at c.checked_add.ensures in
    exits c.from_residual.result c.in_err-lat.was (tested (c.args.p.lat.0 +ℤ c.args.by.lat) c.checked_add.result lat c.ok_or.ensures.value) c.from_residual.ensures.1 _

pub returns-in_err-lon : goal.returns-in_err-lon
unfolding moved_by
returns-in_err-lon c =
    let a : SFits w32 c.args.p.lat.0 = search rules in
    let b : SFits w32 c.args.by.lat = search rules in
    let lat = rw (to_z-of_z w32 _ a, to_z-of_z w32 _ b) at c.checked_add.ensures in
    let d : SFits w32 c.args.p.lon.0 = search rules in
    let e : SFits w32 c.args.by.lon = search rules in
    let lon = rw (to_z-of_z w32 _ d, to_z-of_z w32 _ e) at c.checked_add-2.ensures in
    exits c.from_residual-in_err-lon.result c.in_err-lon.was (tested (c.args.p.lon.0 +ℤ c.args.by.lon) c.checked_add-2.result lon c.ok_or-2.ensures.value) c.from_residual-in_err-lon.ensures.1 _
    ∙ goes_on c.ok_or.result (tested (c.args.p.lat.0 +ℤ c.args.by.lat) c.checked_add.result lat c.ok_or.ensures.value) c.in_ok-lat.was _

pub returns : goal.returns
unfolding moved_by
returns c =
    let a : SFits w32 c.args.p.lat.0 = search rules in
    let b : SFits w32 c.args.by.lat = search rules in
    let lat = rw (to_z-of_z w32 _ a, to_z-of_z w32 _ b) at c.checked_add.ensures in
    let d : SFits w32 c.args.p.lon.0 = search rules in
    let e : SFits w32 c.args.by.lon = search rules in
    let lon = rw (to_z-of_z w32 _ d, to_z-of_z w32 _ e) at c.checked_add-2.ensures in
    rw (
      to_z-of_z w32 _ (tested_fits (c.args.p.lat.0 +ℤ c.args.by.lat) c.checked_add.result lat c.ok_or.ensures.value c.in_ok-lat.was),
      to_z-of_z w32 _ (tested_fits (c.args.p.lon.0 +ℤ c.args.by.lon) c.checked_add-2.result lon c.ok_or-2.ensures.value c.in_ok-lon.was),
    ) (goes_on c.ok_or-2.result (tested (c.args.p.lon.0 +ℤ c.args.by.lon) c.checked_add-2.result lon c.ok_or-2.ensures.value) c.in_ok-lon.was _
    ∙ goes_on c.ok_or.result (tested (c.args.p.lat.0 +ℤ c.args.by.lat) c.checked_add.result lat c.ok_or.ensures.value) c.in_ok-lat.was _)
