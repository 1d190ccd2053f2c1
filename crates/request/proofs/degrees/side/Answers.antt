-- `request::degrees::side` meets its contract.
use Rattle.numbers.{proofs.Prelude.{sym, ap, ◌∙◌}, specs.Reply.{refused}}
use Rattle.request.proofs.{Numerals.{side_plus, side_minus, side_none}}
use Rattle.request.proofs.degrees.side.Goals as goal

pub returns-then-formed : goal.returns-then-formed
returns-then-formed c =
    side_plus c.args.plus c.args.minus c.args.text.now c.args.place (sym c.formed.ensures ∙ c.if-formed.true)

pub returns-then-formed-2 : goal.returns-then-formed-2
returns-then-formed-2 c =
    side_minus c.args.plus c.args.minus c.args.text.now c.args.place (sym c.formed.ensures ∙ c.if-formed.false) (sym c.formed-2.ensures ∙ c.if-formed-2.true)

pub returns : goal.returns
returns c =
    ap refused c.at.ensures ∙ side_none c.args.plus c.args.minus c.args.text.now c.args.place (sym c.formed.ensures ∙ c.if-formed.false) (sym c.formed-2.ensures
    ∙ c.if-formed-2.false)
