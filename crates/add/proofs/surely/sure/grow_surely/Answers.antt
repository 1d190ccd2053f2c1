-- `add::surely::sure::grow_surely` meets its contract.
use Rattle.numbers.proofs.{Prelude.{rules, w32, SFits, of_z, to_z}, Replies.{passed_on}}
use mir.Facts.{to_z-of_z}
use Rattle.add.proofs.surely.{Steps.{grows_into, grows_not}}
use Rattle.add.specs.inner.Surely.Sure.{Growths}
use Rattle.add.proofs.surely.sure.grow_surely.Goals as goal

pub returns-in_default : goal.returns-in_default
unfolding Growths
returns-in_default c =
    tt

pub returns-then-records-gt1073741824 : goal.returns-then-records-gt1073741824
unfolding Growths
returns-then-records-gt1073741824 c =
    tt

pub returns : goal.returns
returns c =
    let step = c.in-Some.step in
    let fits : SFits w32 step.greatest = search rules in
    grows_into _ _ _ _ step c.in-Some.is (to_z w32 (of_z w32 step.greatest)) (to_z-of_z fits) step.records _ c.grow.ensures _ c.in_ok-held.was

pub returns-in_err-held : goal.returns-in_err-held
returns-in_err-held c =
    let step = c.in-Some.step in
    let fits : SFits w32 step.greatest = search rules in
    rw (passed_on c.from_residual.result c.from_residual.ensures.1)
    (grows_not _ _ _ _ step c.in-Some.is (to_z w32 (of_z w32 step.greatest)) (to_z-of_z fits) step.records _ c.grow.ensures _ c.in_err-held.was)
