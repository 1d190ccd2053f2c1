-- `request::text::find` meets its contract.
use Rattle.numbers.proofs.Prelude.{eqb, drop, ◌||◌, sym, ap, ◌∙◌, arith, length-drop}
use Rattle.std.specs.Prelude.{position}
use Rattle.request.proofs.Texts.{rest_is, first_place, none_passes, until_place}
use Rattle.request.proofs.text.find.Goals as goal

pub returns-in-Some : goal.returns-in-Some
returns-in-Some c =
    let text = c.args.text.now in
    let from = c.args.from in
    let place = first_place (λ byte. eqb byte c.args.a || eqb byte c.args.b) (drop from text) (ap (position _) (sym (rest_is text from)) ∙ sym c.first_of.ensures ∙ c.in-Some.is) in
    (omega (arith, place, until_place c.args.a c.args.b (drop from text)), omega (arith, place, length-drop from text, c.requires))

pub returns-in-None : goal.returns-in-None
returns-in-None c =
    let text = c.args.text.now in
    let from = c.args.from in
    let none = none_passes (λ byte. eqb byte c.args.a || eqb byte c.args.b) (drop from text) (ap (position _) (sym (rest_is text from)) ∙ sym c.first_of.ensures ∙ c.in-None.is) in
    (omega (arith, none, until_place c.args.a c.args.b (drop from text), length-drop from text, c.requires), omega arith)
