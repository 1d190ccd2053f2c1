-- `notes::quick::step::grow` meets its contract.
use Rattle.numbers.proofs.Prelude.{rules, sfits_of, ◌∙◌, w32, SFits}
use mir.Facts.{to_z-of_z}
use Rattle.notes.proofs.quick.{Growing.{grows}}
use Rattle.notes.proofs.quick.step.grow.Goals as goal

pub returns : goal.returns
returns c =
    let numbers = c.args.numbers in
    let fits : SFits w32 numbers.greatest = search rules in
    λ yards y drawn drawn' names lengths starts texts chains groups s m. grows _ _ _ _ _ _ _ _ _ _ _ _ _ _ _ s _ _ m _ _ c.table_more.ensures.is (λ e. to_z-of_z {w = w32}
    (sfits_of c.greatest_with.type_inv) ∙ c.greatest_with.ensures (to_z-of_z fits ∙ e))
