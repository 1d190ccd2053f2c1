-- The length that is answered is the line's. Assumes nothing.
use Rattle.numbers.{proofs.{Prelude.{ℕ, eqb, length, false, List, ◌≡◌, sym, ap, ◌∙◌}, Replies.{given_from, given_one, demanded}}, specs.Reply.{given, refusal, plain}}
use Rattle.atlas.specs.Beside.{zones_beside}
use Rattle.header.specs.Header.{head_of}
use Rattle.request.specs.{Request.{request_of}, declared.read.Fix.{Fix}}
use Rattle.slip.specs.{Hour.{hours_from}, Line.{line_of}, Slip.{Slip, place_of, on_globe, agreed, fitted, slip_at, slip_of}}

at_length : (fix : Fix) (map atlas zones : List ℕ) (n room size : ℕ) {slip : Slip} → given slip ≡ slip_at fix map atlas zones n room size → slip.stamped.length ≡ length slip.line
unfolding slip_at
at_length fix map atlas zones n room size e = let globe = demanded (on_globe fix) (plain 84) e in let head = given_from (head_of map) _ globe.1 in
    let looked = given_from (zones_beside map head.it atlas (place_of fix) false n room) _ head.onto in
    let mark = demanded (eqb looked.it.answer.mark 1) (refusal 85 0 looked.it.answer.mark) looked.onto in
    let hours = given_from (hours_from map head.it zones fix.instant 1 looked.it.matches) _ mark.1 in
    let hour = given_from (agreed hours.it) _ hours.onto in let line = given_from (fitted size (line_of hour.it hours.it)) _ hour.onto in
    let is = given_one line.onto in ap (λ (s : Slip). s.stamped.length) is ∙ sym (ap (λ (s : Slip). length s.line) is)

pub slip_length : (request map atlas zones : List ℕ) (n room size : ℕ) {slip : Slip} → given slip ≡ slip_of request map atlas zones n room size → slip.stamped.length ≡ length slip.line
unfolding slip_of
slip_length request map atlas zones n room size e = let fix = given_from (request_of request) _ e in at_length fix.it map atlas zones n room size fix.onto
