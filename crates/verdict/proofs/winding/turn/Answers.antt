-- `verdict::winding::turn` meets its contract: the exact sum, where it is in the range of an i32.
use Rattle.numbers.proofs.Prelude.{rules, ◌+ℤ◌, w32, SFits, to_z-of_z}
use Rattle.verdict.proofs.{Halts.{exits, goes_on, tested, tested_fits}}
use Rattle.verdict.specs.Winding.{turned}
use Rattle.verdict.proofs.winding.turn.Goals as goal

pub returns-in_err-winding : goal.returns-in_err-winding
unfolding turned
returns-in_err-winding c =
    let w : SFits w32 c.args.tally.winding = search rules in
    let sum = rw (to_z-of_z w32 _ w, to_z-of_z w32 _ c.ranges.by) at c.checked_add.ensures in
    exits c.from_residual.result c.in_err-winding.was (tested (c.args.tally.winding +ℤ c.args.by) c.checked_add.result sum c.ok_or.ensures.value) c.from_residual.ensures.1 _

pub returns : goal.returns
unfolding turned
returns c =
    let w : SFits w32 c.args.tally.winding = search rules in
    let sum = rw (to_z-of_z w32 _ w, to_z-of_z w32 _ c.ranges.by) at c.checked_add.ensures in
    rw (to_z-of_z w32 _ (tested_fits (c.args.tally.winding +ℤ c.args.by) c.checked_add.result sum c.ok_or.ensures.value c.in_ok-winding.was))
    (goes_on c.ok_or.result (tested (c.args.tally.winding +ℤ c.args.by) c.checked_add.result sum c.ok_or.ensures.value) c.in_ok-winding.was _)
