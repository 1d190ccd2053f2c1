-- `edit::changing::drop::with_sums` meets its contract.
use Rattle.numbers.proofs.Prelude.{rules, ap, w32, SFits}
use mir.Facts.{to_z-of_z}
use Rattle.edit.specs.inner.Changing.Dropped.{with_sums}
use Rattle.edit.proofs.changing.drop.with_sums.Goals as goal

pub returns : goal.returns
unfolding with_sums
returns c =
    let greatest : SFits w32 c.args.sums.greatest = search rules in
    ap (with_sums c.args.held c.args.sums.table c.args.sums.metadata) (to_z-of_z greatest)
