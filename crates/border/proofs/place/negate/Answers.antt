-- `border::place::negate` meets its contract.
use Rattle.numbers.proofs.{Laws.{exits, goes_on}, Prelude.{neg_ℤ, ◌∙◌, rules, w32, SFits, to_z-of_z}}
use Rattle.border.proofs.place.Ranged.{tested, tested_fits}
use Rattle.border.specs.Place.{negated}
use Rattle.border.proofs.place.negate.Goals as goal

pub returns-in_err-lat : goal.returns-in_err-lat
unfolding negated
returns-in_err-lat c =
    let a : SFits w32 c.args.by.lat = search rules in
    let lat = rw (to_z-of_z w32 _ a) at c.checked_neg.ensures in
    exits c.from_residual.result c.in_err-lat.was (tested (neg_ℤ c.args.by.lat) c.checked_neg.result lat c.ok_or.ensures.value) c.from_residual.ensures.1 _

pub returns-in_err-lon : goal.returns-in_err-lon
unfolding negated
returns-in_err-lon c =
    let a : SFits w32 c.args.by.lat = search rules in
    let lat = rw (to_z-of_z w32 _ a) at c.checked_neg.ensures in
    let d : SFits w32 c.args.by.lon = search rules in
    let lon = rw (to_z-of_z w32 _ d) at c.checked_neg-2.ensures in
    exits c.from_residual-in_err-lon.result c.in_err-lon.was (tested (neg_ℤ c.args.by.lon) c.checked_neg-2.result lon c.ok_or-2.ensures.value) c.from_residual-in_err-lon.ensures.1 _
    ∙ goes_on c.ok_or.result (tested (neg_ℤ c.args.by.lat) c.checked_neg.result lat c.ok_or.ensures.value) c.in_ok-lat.was _

pub returns : goal.returns
unfolding negated
returns c =
    let a : SFits w32 c.args.by.lat = search rules in
    let lat = rw (to_z-of_z w32 _ a) at c.checked_neg.ensures in
    let d : SFits w32 c.args.by.lon = search rules in
    let lon = rw (to_z-of_z w32 _ d) at c.checked_neg-2.ensures in
    rw (
      to_z-of_z w32 _ (tested_fits (neg_ℤ c.args.by.lat) c.checked_neg.result lat c.ok_or.ensures.value c.in_ok-lat.was),
      to_z-of_z w32 _ (tested_fits (neg_ℤ c.args.by.lon) c.checked_neg-2.result lon c.ok_or-2.ensures.value c.in_ok-lon.was),
    ) (goes_on c.ok_or-2.result (tested (neg_ℤ c.args.by.lon) c.checked_neg-2.result lon c.ok_or-2.ensures.value) c.in_ok-lon.was _
    ∙ goes_on c.ok_or.result (tested (neg_ℤ c.args.by.lat) c.checked_neg.result lat c.ok_or.ensures.value) c.in_ok-lat.was _)
