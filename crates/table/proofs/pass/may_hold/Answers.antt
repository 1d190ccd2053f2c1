-- `table::pass::may_hold` meets its contract, by the test that led to each answer.
use Rattle.numbers.proofs.{Prelude.{sfits_of, sym, ◌∙◌, w32, to_z-of_z}, Tests.{differ}}
use Rattle.border.specs.Box.{between}
use Rattle.table.proofs.pass.{Passing.{below_missed, lons_missed}}
use Rattle.table.proofs.pass.may_hold.Goals as goal

pub returns-then-lat_below : goal.returns-then-lat_below
returns-then-lat_below c =
    λ e. below_missed c.args.bounds c.args.fix (sym c.lat_below.ensures ∙ c.if-lat_below.true)

pub returns-in_default : goal.returns-in_default
returns-in_default c =
    λ e. differ (sym e)

pub returns-in_default-short_at : goal.returns-in_default-short_at
returns-in_default-short_at c =
    λ e. differ (sym e)

pub returns : goal.returns
returns c =
    let low = to_z-of_z w32 _ (sfits_of c.signed.type_inv) ∙ c.signed.ensures in
    let high = to_z-of_z w32 _ (sfits_of c.signed-2.type_inv) ∙ c.signed-2.ensures in
    lons_missed c.args.fix c.requires (rw c.in-Some.is at c.short_at.ensures) (rw c.in-Some-short_at.is at c.short_at-2.ensures) (c.lon_between.ensures
    ∙ (λ i. between (low i) c.args.fix.lon.0 (high i)))
