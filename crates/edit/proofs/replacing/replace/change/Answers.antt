-- `edit::replacing::replace::change` meets its contract.
use Rattle.numbers.proofs.{Prelude.{refl}, Replies.{passed_on}}
use Rattle.draft.specs.Held.State.{lists_as}
use Rattle.edit.proofs.replacing.{Answered.{may_put, replace_put, replace_refused}}
use Rattle.edit.proofs.replacing.replace.change.Goals as goal

pub returns-in_err-spot : goal.returns-in_err-spot
returns-in_err-spot c =
    rw (passed_on c.from_residual.result c.from_residual.ensures.1) (replace_refused _ _ _ _ _ _ _ c.check.result c.check.ensures (lists_as c.args.boxes.now c.args.borders.now c.args.lengths.now c.args.texts.now
    c.args.bytes.now) refl refl refl refl refl refl _ c.in_err-spot.was)

pub put_value-requires : goal.put_value-requires
put_value-requires c =
    may_put _ _ _ _ _ _ _ c.check.result c.check.ensures _ c.in_ok-spot.was

pub returns : goal.returns
returns c =
    replace_put _ _ _ _ _ _ _ c.check.result c.check.ensures (lists_as c.args.boxes.now c.args.borders.now c.args.lengths.now c.args.texts.now
    c.args.bytes.now) refl refl refl refl refl refl _ c.in_ok-spot.was _ _ (c.put_value.ensures c.args.bytes.now)
