-- `request::clock::date` meets its contract.
use Rattle.numbers.{proofs.Prelude.{refl, sym, ap, ◌∙◌, arith}, specs.Reply.{refused}}
use Rattle.request.proofs.{Numerals.{form_holds}, Times.{date_formless, date_dated, same_date}}
use Rattle.request.specs.{Clock.{Date, full_year}, Request.{at}, Told.{dated}}
use Rattle.request.proofs.clock.date.Goals as goal

pub returns-then-not-has_form : goal.returns-then-not-has_form
returns-then-not-has_form c =
    (ap refused c.at.ensures ∙ date_formless c.args.text.now c.args.place (sym c.has_form.ensures ∙ c.if-not-has_form.true), tt)

pub part-day-requires : goal.part-day-requires
part-day-requires c =
    let held = form_holds 6 0 c.args.text.now (sym c.has_form.ensures ∙ c.if-not-has_form.false) in
    (omega arith, omega arith)

pub part-month-requires : goal.part-month-requires
part-month-requires c =
    let held = form_holds 6 0 c.args.text.now (sym c.has_form.ensures ∙ c.if-not-has_form.false) in
    (omega arith, omega arith)

pub part-requires : goal.part-requires
part-requires c =
    let held = form_holds 6 0 c.args.text.now (sym c.has_form.ensures ∙ c.if-not-has_form.false) in
    (omega arith, omega arith)

pub returns : goal.returns
returns c = (
  c.day_number.ensures.0 ∙ ap (λ (d : Date). at c.args.place (dated d)) (same_date refl c.part-month.ensures.0 c.part-day.ensures.0)
      ∙ date_dated c.args.text.now c.args.place (sym c.has_form.ensures ∙ c.if-not-has_form.false) (c.full_year-year.ensures
      ∙ ap full_year c.part.ensures.0),
  c.day_number.ensures.1,
)
