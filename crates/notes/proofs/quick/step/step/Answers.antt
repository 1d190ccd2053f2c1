-- `notes::quick::step::step` meets its contract.
use Rattle.numbers.proofs.Prelude.{rules, arith}
use Rattle.notes.proofs.quick.{Answers.{adds-few, steps-sure, steps-unsure}}
use Rattle.notes.proofs.quick.step.step.Goals as goal

pub returns-then-metadata-gt1073741824 : goal.returns-then-metadata-gt1073741824
returns-then-metadata-gt1073741824 c =
    λ yards y drawn drawn' lengths s. steps-unsure yards y drawn'

pub returns-then-numbers-gt1073741824 : goal.returns-then-numbers-gt1073741824
returns-then-numbers-gt1073741824 c =
    λ yards y drawn drawn' lengths s. steps-unsure yards y drawn'

pub returns-then-metadata-records : goal.returns-then-metadata-records
returns-then-metadata-records c =
    λ yards y drawn drawn' lengths s. steps-unsure yards y drawn'

pub grow-requires : goal.grow-requires
grow-requires c =
    let few = adds-few _ c.place_record.ensures.0 _ c.in_ok-placed.was in
    (search rules, omega arith, omega arith, omega arith, few)

pub returns : goal.returns
returns c =
    steps-sure _ _ _ _ _ _ _ _ _ _ _ c.place_record.ensures.1 _ c.in_ok-placed.was _ c.grow.ensures

pub returns-in_err-placed : goal.returns-in_err-placed
returns-in_err-placed c =
    λ yards y drawn drawn' lengths s. rw c.from_residual.ensures (steps-unsure yards y drawn')
