-- `salvage::moves::steps::step_number` meets its contract.
use Rattle.numbers.proofs.Prelude.{rules, w32, SFits}
use Rattle.writer.specs.Moves.{move_to}
use Rattle.salvage.proofs.moves.{Forms.{between_forms, still_number, going_number}}
use Rattle.salvage.proofs.moves.steps.step_number.Goals as goal
use Rattle.salvage.proofs.moves.steps.step_number.Goals.{else-lat-eq0-via-then-lat-eq0+else-lon-eq0, else-lat-eq0-via-else-lat-eq0}

pub returns-then-lon-eq0 : goal.returns-then-lon-eq0
unfolding move_to
returns-then-lon-eq0 c =
    let a : SFits w32 c.args.from.lat.0 = search rules in
    let b : SFits w32 c.args.to.lat.0 = search rules in
    let d : SFits w32 c.args.from.lon.0 = search rules in
    let e : SFits w32 c.args.to.lon.0 = search rules in
    still_number (move_to c.args.from c.args.to) (between_forms a b c.form_of-lat.ensures) (between_forms d e c.form_of-lon.ensures) c.if-lat-eq0.true c.if-lon-eq0.true

pub returns : goal.returns
unfolding move_to
returns c =
    let a : SFits w32 c.args.from.lat.0 = search rules in
    let b : SFits w32 c.args.to.lat.0 = search rules in
    let d : SFits w32 c.args.from.lon.0 = search rules in
    let e : SFits w32 c.args.to.lon.0 = search rules in
    let by = going_number (move_to c.args.from c.args.to) (between_forms a b c.form_of-lat.ensures) (between_forms d e c.form_of-lon.ensures) c.interleave.ensures in
    elim c.else-lat-eq0.branch [
      | else-lat-eq0-via-then-lat-eq0+else-lon-eq0 w ↦ by (λ lat lon. w.if-lon-eq0.false lon)
      | else-lat-eq0-via-else-lat-eq0 w ↦ by (λ lat lon. w.if-lat-eq0.false lat)
    ]
