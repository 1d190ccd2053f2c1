-- `request::clock::time` meets its contract.
use Rattle.numbers.{proofs.Prelude.{sym, ap, ◌∙◌, arith}, specs.Reply.{refused}}
use Rattle.request.proofs.{Numerals.{form_holds}, Times.{time_formless, time_timely, same_time}}
use Rattle.request.specs.{Clock.{Time}, Request.{at}, Told.{timely}}
use Rattle.request.proofs.clock.time.Goals as goal

pub returns-then-not-has_form : goal.returns-then-not-has_form
returns-then-not-has_form c =
    (ap refused c.at.ensures ∙ time_formless c.args.text.now c.args.place (sym c.has_form.ensures ∙ c.if-not-has_form.true), tt)

pub part-hour-requires : goal.part-hour-requires
part-hour-requires c =
    let held = form_holds 6 255 c.args.text.now (sym c.has_form.ensures ∙ c.if-not-has_form.false) in
    (omega arith, omega arith)

pub part-minute-requires : goal.part-minute-requires
part-minute-requires c =
    let held = form_holds 6 255 c.args.text.now (sym c.has_form.ensures ∙ c.if-not-has_form.false) in
    (omega arith, omega arith)

pub part-second-requires : goal.part-second-requires
part-second-requires c =
    let held = form_holds 6 255 c.args.text.now (sym c.has_form.ensures ∙ c.if-not-has_form.false) in
    (omega arith, omega arith)

pub returns : goal.returns
returns c = (
  c.second_of.ensures.0 ∙ ap (λ (t : Time). at c.args.place (timely t)) (same_time c.part-hour.ensures.0 c.part-minute.ensures.0 c.part-second.ensures.0)
      ∙ time_timely c.args.text.now c.args.place (sym c.has_form.ensures ∙ c.if-not-has_form.false),
  c.second_of.ensures.1,
)
