-- `request::number::has_form` meets its contract.
use Rattle.numbers.proofs.Prelude.{sym, ap, ◌∙◌}
use Rattle.request.proofs.{Numerals.{form_short, form_other, form_is}, Texts.{rest_is}}
use Rattle.request.specs.Number.{is_tail}
use Rattle.request.proofs.number.has_form.Goals as goal

pub returns-then-text-width : goal.returns-then-text-width
returns-then-text-width c =
    form_short c.args.width c.args.most c.args.text.now c.if-text-width.true

pub returns-then-every : goal.returns-then-every
returns-then-every c =
    c.is_tail.ensures ∙ ap (is_tail c.args.most) (rest_is c.args.text.now c.args.width) ∙ form_is c.args.width c.args.most c.args.text.now c.if-text-width.false
    (sym c.every.ensures ∙ c.if-every.true)

pub returns-else-every : goal.returns-else-every
returns-else-every c =
    c.if-every.false ∙ form_other c.args.width c.args.most c.args.text.now c.if-text-width.false (sym c.every.ensures ∙ c.if-every.false)
