-- `request::degrees::signed_degrees` meets its contract.
use Rattle.numbers.proofs.Prelude.{ℕ, eqb, List, ap, ◌∙◌}
use Rattle.request.proofs.{Numerals.{degrees_are, degrees_refused, size_held}, Texts.{rest_is}}
use Rattle.request.specs.{Number.{decimal_of, nearest_to}, Request.{at}}
use Rattle.numbers.proofs.Replies.{passed_on}
use Rattle.request.proofs.degrees.signed_degrees.Goals as goal

pub nearest_to-requires : goal.nearest_to-requires
nearest_to-requires c =
    size_held c.in_ok-size.was c.decimal.ensures.1

pub returns : goal.returns
returns c =
    let text = c.args.text.now in
    let read = c.decimal.ensures.0 ∙ ap (λ (l : List ℕ). at c.args.place (decimal_of c.args.limit l)) (rest_is text c.sign_size-sign.result
    ∙ c.sign_size-sign.ensures.0) in
    degrees_are c.args.limit text c.args.place read c.in_ok-size.was (c.nearest_to.ensures ∙ ap (λ (n : ℕ). nearest_to (record {
      minus = eqb n 45;
      size = record {
        num =
            c.in_ok-size.size.num;
        den = c.in_ok-size.size.den;
      };
    })) c.first-minus.ensures)

pub returns-in_err-size : goal.returns-in_err-size
returns-in_err-size c =
    let text = c.args.text.now in
    let read = c.decimal.ensures.0 ∙ ap (λ (l : List ℕ). at c.args.place (decimal_of c.args.limit l)) (rest_is text c.sign_size-sign.result
    ∙ c.sign_size-sign.ensures.0) in
    passed_on c.from_residual.result c.from_residual.ensures.1 ∙ degrees_refused c.args.limit text c.args.place read c.in_err-size.was
