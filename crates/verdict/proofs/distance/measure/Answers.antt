-- `verdict::distance::measure` meets its contract: the lesser of the two distances.
use Rattle.numbers.proofs.Prelude.{rules, ◌≡◌, ◌∙◌, w32, of_z, to_z}
use Rattle.verdict.proofs.Halts.{exits, goes_on}
use Rattle.verdict.specs.Distance.{measured}
use Rattle.verdict.proofs.distance.measure.Goals as goal

pub returns-in_err-new : goal.returns-in_err-new
unfolding measured
returns-in_err-new c =
    exits c.from_residual.result c.in_err-new.was c.distance_of.ensures c.from_residual.ensures.1 _

pub returns : goal.returns
unfolding measured
returns c =
    let w = c.args.tally.winding in
    let p : to_z w32 (of_z w32 w) ≡ w = search rules in
    rw (p, c.min.ensures) (goes_on c.distance_of.result c.distance_of.ensures c.in_ok-new.was _)
