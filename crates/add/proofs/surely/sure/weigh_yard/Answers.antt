-- `add::surely::sure::weigh_yard` meets its contract.
use Rattle.numbers.proofs.Prelude.{rules, sym, w32, SFits, of_z, to_z}
use mir.Facts.{to_z-of_z}
use Rattle.add.proofs.surely.{Steps.{ends_in, step_room, weighs}}
use Rattle.add.proofs.surely.sure.weigh_yard.Goals as goal

pub slice_bounds-step-end : goal.slice_bounds-step-end
slice_bounds-step-end c =
    sym (ends_in _ _ _ c.requires.1.noted.marked)

pub step-requires : goal.step-requires
step-requires c =
    step_room _ _ _ _ _ _ _ c.requires.1

pub returns : goal.returns
returns c =
    let fits : SFits w32 c.args.builder.greatest = search rules in
    weighs c.args.builder c.args.noted c.args.boxes.now c.args.borders.now c.args.texts.now c.args.marks.now c.args.chains.now c.args.groups.now c.args.begins.now _
    (to_z w32 (of_z w32 c.args.builder.greatest)) (to_z-of_z fits) c.step.ensures
