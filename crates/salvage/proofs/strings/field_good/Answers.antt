-- `salvage::strings::field_good` meets its contract.
use Rattle.numbers.{proofs.{Prelude.{sym, ap, ◌∙◌}, Replies.{passed_on}}, specs.Reply.{refused}}
use Rattle.salvage.proofs.strings.{Placing.{field_bad, field_inside, field_outside}}
use Rattle.salvage.proofs.strings.field_good.Goals as goal

pub returns-in_err-text : goal.returns-in_err-text
returns-in_err-text c =
    passed_on _ c.from_residual.ensures.1 ∙ field_bad _ _ _ (sym c.in_err-text.was ∙ c.read_text.ensures)

pub returns-then-not-string_inside : goal.returns-then-not-string_inside
returns-then-not-string_inside c =
    ap refused c.alone.ensures ∙ field_outside _ _ _ (sym c.in_ok-text.was ∙ c.read_text.ensures) c.string_inside.ensures c.if-not-string_inside.true

pub returns : goal.returns
returns c =
    field_inside _ _ _ (sym c.in_ok-text.was ∙ c.read_text.ensures) c.string_inside.ensures c.if-not-string_inside.false
