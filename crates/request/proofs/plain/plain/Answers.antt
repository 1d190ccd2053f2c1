-- `request::plain::plain` meets its contract.
use Rattle.numbers.{proofs.Prelude.{ℕ, rules, length, length-drop, length-take-le, refl, sym, ap, ◌∙◌, w64, to_z-of_z, arith}, specs.Reply.{refused, refusal}}
use Rattle.request.proofs.{Replied.{past_is, next_is, shown_in_word, in_first, plain_lat, plain_lon, plain_when, plain_more, plain_is}, Texts.{place_is}}
use Rattle.request.specs.{Clock.{when_of, instant_at}, Number.{degrees_of, nearest_to}}
use Rattle.numbers.proofs.Replies.{passed_on}
use Rattle.request.proofs.plain.plain.Goals as goal

pub returns-in_err-lat : goal.returns-in_err-lat
returns-in_err-lat c =
    passed_on c.from_residual.result c.from_residual.ensures.1 ∙ plain_lat c.args.line.now (sym c.in_err-lat.was ∙ c.signed_degrees.ensures
    ∙ in_first c.args.line.now c.find-first.result c.find-first.ensures.0 (degrees_of 90) nearest_to)

pub returns-in_err-lon : goal.returns-in_err-lon
returns-in_err-lon c =
    let line = c.args.line.now in
    let first = sym c.in_ok-lat.was ∙ c.signed_degrees.ensures ∙ in_first line c.find-first.result c.find-first.ensures.0 (degrees_of 90) nearest_to in
    let next = next_is line line 0 c.find-first.result refl c.find-first.ensures.0 c.skip-second.result c.skip-second.ensures.0 in
    passed_on c.from_residual-in_err-lon.result c.from_residual-in_err-lon.ensures.1 ∙ plain_lon line first (sym c.in_err-lon.was ∙ c.signed_degrees-2.ensures
    ∙ shown_in_word line _ c.skip-second.result c.find-second_end.result next c.find-second_end.ensures.0 c.skip-second.ensures.1 (degrees_of 180) nearest_to)

pub returns-in_err-instant : goal.returns-in_err-instant
returns-in_err-instant c =
    let line = c.args.line.now in
    let first = sym c.in_ok-lat.was ∙ c.signed_degrees.ensures ∙ in_first line c.find-first.result c.find-first.ensures.0 (degrees_of 90) nearest_to in
    let next = next_is line line 0 c.find-first.result refl c.find-first.ensures.0 c.skip-second.result c.skip-second.ensures.0 in
    let second = sym c.in_ok-lon.was ∙ c.signed_degrees-2.ensures
    ∙ shown_in_word line _ c.skip-second.result c.find-second_end.result next c.find-second_end.ensures.0 c.skip-second.ensures.1 (degrees_of 180) nearest_to in
    let last = next_is line _ c.skip-second.result c.find-second_end.result next c.find-second_end.ensures.0 c.skip-third.result c.skip-third.ensures.0 in
    passed_on c.from_residual-in_err-instant.result c.from_residual-in_err-instant.ensures.1 ∙ plain_when line first second (sym c.in_err-instant.was ∙ c.when.ensures
    ∙ shown_in_word line _ c.skip-third.result c.find-third_end.result last c.find-third_end.ensures.0 c.skip-third.ensures.1 when_of instant_at)

pub returns-then-third_end-line : goal.returns-then-third_end-line
returns-then-third_end-line c =
    let line = c.args.line.now in
    let first = sym c.in_ok-lat.was ∙ c.signed_degrees.ensures ∙ in_first line c.find-first.result c.find-first.ensures.0 (degrees_of 90) nearest_to in
    let next = next_is line line 0 c.find-first.result refl c.find-first.ensures.0 c.skip-second.result c.skip-second.ensures.0 in
    let second = sym c.in_ok-lon.was ∙ c.signed_degrees-2.ensures
    ∙ shown_in_word line _ c.skip-second.result c.find-second_end.result next c.find-second_end.ensures.0 c.skip-second.ensures.1 (degrees_of 180) nearest_to in
    let last = next_is line _ c.skip-second.result c.find-second_end.result next c.find-second_end.ensures.0 c.skip-third.result c.skip-third.ensures.0 in
    let third = sym c.in_ok-instant.was ∙ c.when.ensures ∙ shown_in_word line _ c.skip-third.result c.find-third_end.result last c.find-third_end.ensures.0
    c.skip-third.ensures.1 when_of instant_at in
    let past = past_is line _ c.skip-third.result c.find-third_end.result last c.find-third_end.ensures.0 in
    let more = next_is line _ c.skip-third.result c.find-third_end.result last c.find-third_end.ensures.0 c.skip-fourth.result c.skip-fourth.ensures.0 in
    ap refused c.at.ensures ∙ ap (λ (n : ℕ). refused (refusal 80 0 n)) (place_is line _ c.skip-fourth.result more c.skip-fourth.ensures.1)
    ∙ plain_more line first second third (λ e. omega (arith, c.if-third_end-line.true, ap length past, length-drop c.find-third_end.result line, e))

pub returns : goal.returns
returns c =
    let line = c.args.line.now in
    let first = sym c.in_ok-lat.was ∙ c.signed_degrees.ensures ∙ in_first line c.find-first.result c.find-first.ensures.0 (degrees_of 90) nearest_to in
    let next = next_is line line 0 c.find-first.result refl c.find-first.ensures.0 c.skip-second.result c.skip-second.ensures.0 in
    let second = sym c.in_ok-lon.was ∙ c.signed_degrees-2.ensures
    ∙ shown_in_word line _ c.skip-second.result c.find-second_end.result next c.find-second_end.ensures.0 c.skip-second.ensures.1 (degrees_of 180) nearest_to in
    let last = next_is line _ c.skip-second.result c.find-second_end.result next c.find-second_end.ensures.0 c.skip-third.result c.skip-third.ensures.0 in
    let third = sym c.in_ok-instant.was ∙ c.when.ensures ∙ shown_in_word line _ c.skip-third.result c.find-third_end.result last c.find-third_end.ensures.0
    c.skip-third.ensures.1 when_of instant_at in
    let past = past_is line _ c.skip-third.result c.find-third_end.result last c.find-third_end.ensures.0 in
    plain_is line first second third (omega (arith, c.if-third_end-line.false, ap length past, length-drop c.find-third_end.result line)) (to_z-of_z w64
    c.in_ok-instant.instant (search rules))
