-- `request::text::formed` meets its contract.
use Rattle.numbers.proofs.Prelude.{length, ne_eqb, ◌∙◌}
use Rattle.request.proofs.{Texts.{form_length, form_zip}}
use Rattle.request.proofs.text.formed.Goals as goal

pub returns-then-text-form : goal.returns-then-text-form
returns-then-text-form c =
    c.all_likened.ensures ∙ form_zip c.args.form.now c.args.text.now c.if-text-form.true

pub returns-else-text-form : goal.returns-else-text-form
returns-else-text-form c =
    ne_eqb (length c.args.text.now) (length c.args.form.now) c.if-text-form.false ∙ form_length c.args.form.now c.args.text.now c.if-text-form.false
