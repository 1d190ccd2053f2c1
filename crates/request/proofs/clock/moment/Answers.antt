-- `request::clock::moment` meets its contract.
use Rattle.numbers.{proofs.Prelude.{ℕ, sfits_of, ◌≡◌, sym, ap, ◌∙◌, w64, to_z-of_z, arith}, specs.Reply.{refused}}
use Rattle.calendar.specs.Moments.{instant_of}
use Rattle.request.proofs.{Texts.{form_lengths}, Times.{moment_day, no_moment_time, moment_is, dated_given, dated_refused, timely_given, timely_refused, day_short, second_short, same_time}}
use Rattle.request.proofs.{Times.{same_date}}
use Rattle.request.specs.{Clock.{Date, Time, moment_form, moment_date, moment_time}, Request.{at}, Told.{dated, timely}}
use Rattle.numbers.proofs.Replies.{passed_on}
use Rattle.request.proofs.clock.moment.Goals as goal

pub part-year-requires : goal.part-year-requires
part-year-requires c =
    let held = form_lengths moment_form c.args.text.now c.requires in
    (omega arith, omega arith)

pub part-month-requires : goal.part-month-requires
part-month-requires c =
    let held = form_lengths moment_form c.args.text.now c.requires in
    (omega arith, omega arith)

pub part-day-requires : goal.part-day-requires
part-day-requires c =
    let held = form_lengths moment_form c.args.text.now c.requires in
    (omega arith, omega arith)

pub part-hour-requires : goal.part-hour-requires
part-hour-requires c =
    let held = form_lengths moment_form c.args.text.now c.requires in
    (omega arith, omega arith)

pub part-minute-requires : goal.part-minute-requires
part-minute-requires c =
    let held = form_lengths moment_form c.args.text.now c.requires in
    (omega arith, omega arith)

pub part-second-requires : goal.part-second-requires
part-second-requires c =
    let held = form_lengths moment_form c.args.text.now c.requires in
    (omega arith, omega arith)

pub returns-in_err-days : goal.returns-in_err-days
returns-in_err-days c =
    let date : _ ≡ moment_date c.args.text.now = same_date c.part-year.ensures.0 c.part-month.ensures.0 c.part-day.ensures.0 in
    let no = dated_refused (moment_date c.args.text.now) c.args.place (sym c.in_err-days.was ∙ c.day_number.ensures.0
    ∙ ap (λ (d : Date). at c.args.place (dated d)) date) in
    passed_on c.from_residual.result c.from_residual.ensures.1 ∙ ap refused no.1 ∙ moment_day c.args.text.now c.args.place c.requires no.0

pub returns-in_err-seconds : goal.returns-in_err-seconds
returns-in_err-seconds c =
    let text = c.args.text.now in
    let date : _ ≡ moment_date text = same_date c.part-year.ensures.0 c.part-month.ensures.0 c.part-day.ensures.0 in
    let time : _ ≡ moment_time text = same_time c.part-hour.ensures.0 c.part-minute.ensures.0 c.part-second.ensures.0 in
    let yes = dated_given (moment_date text) c.args.place (sym c.in_ok-days.was ∙ c.day_number.ensures.0 ∙ ap (λ (d : Date). at c.args.place (dated d)) date) in
    let no = timely_refused (moment_time text) c.args.place (sym c.in_err-seconds.was ∙ c.second_of.ensures.0
    ∙ ap (λ (d : Time). at c.args.place (timely d)) time) in
    passed_on c.from_residual-in_err-seconds.result c.from_residual-in_err-seconds.ensures.1 ∙ ap refused no.1 ∙ no_moment_time text c.args.place c.requires yes.0 no.0

pub returns : goal.returns
returns c =
    let text = c.args.text.now in
    let date : _ ≡ moment_date text = same_date c.part-year.ensures.0 c.part-month.ensures.0 c.part-day.ensures.0 in
    let time : _ ≡ moment_time text = same_time c.part-hour.ensures.0 c.part-minute.ensures.0 c.part-second.ensures.0 in
    let day = dated_given (moment_date text) c.args.place (sym c.in_ok-days.was ∙ c.day_number.ensures.0 ∙ ap (λ (d : Date). at c.args.place (dated d)) date) in
    let second = timely_given (moment_time text) c.args.place (sym c.in_ok-seconds.was ∙ c.second_of.ensures.0
    ∙ ap (λ (d : Time). at c.args.place (timely d)) time) in
    moment_is text c.args.place c.requires day.0 second.0 (to_z-of_z w64 _ (sfits_of c.instant_of.type_inv) ∙ c.instant_of.ensures
    ∙ ap (λ (n : ℕ). instant_of n c.in_ok-seconds.seconds) day.1 ∙ ap (instant_of _) second.1)
