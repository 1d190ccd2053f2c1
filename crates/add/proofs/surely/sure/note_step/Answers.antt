-- `add::surely::sure::note_step` meets its contract.
use Rattle.numbers.proofs.Prelude.{sym, arith}
use Rattle.add.proofs.surely.{Steps.{ends_in}}
use Rattle.add.proofs.surely.sure.note_step.Goals as goal

pub slice_bounds-note_yard-end : goal.slice_bounds-note_yard-end
slice_bounds-note_yard-end c =
    sym (ends_in _ _ _ c.requires.noted.marked)

pub note_yard-requires : goal.note_yard-requires
note_yard-requires c =
    let long = ends_in c.args.builder.yards c.args.builder.names c.args.marks.now c.requires.noted.marked in
    (c.requires.few_names, c.requires.few_yards, omega (arith, long), c.requires.noted.chained, omega (arith, c.requires.noted.grouped))
