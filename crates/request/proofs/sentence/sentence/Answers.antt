-- `request::sentence::sentence` meets its contract.
use Rattle.numbers.{proofs.Prelude.{ℕ, ◌-◌, drop, length-drop, length-take, List, sym, ap, ◌∙◌, arith}, specs.Reply.{refused, refusal}}
use Rattle.request.proofs.{Replied.{seal_some, body_is, not_sealed, sealed_fields}}
use Rattle.request.specs.{Request.{body_of, fields_of, meaning}, Told.{shown}}
use Rattle.request.proofs.sentence.sentence.Goals as goal

pub returns-then-not-sealed : goal.returns-then-not-sealed
returns-then-not-sealed c =
    ap refused c.at.ensures ∙ ap (λ (n : ℕ). refused (refusal 82 0 n)) c.star_of-star.ensures ∙ not_sealed c.args.line.now (sym c.sealed.ensures
    ∙ c.if-not-sealed.true)

pub slice_bounds-fields-count : goal.slice_bounds-fields-count
slice_bounds-fields-count c =
    seal_some c.args.line.now c.star_of-star.ensures c.requires.1 (sym c.sealed.ensures ∙ c.if-not-sealed.false)

pub slice_bounds-fields-start : goal.slice_bounds-fields-start
slice_bounds-fields-start c =
    seal_some c.args.line.now c.star_of-star.ensures c.requires.1 (sym c.sealed.ensures ∙ c.if-not-sealed.false)

pub returns : goal.returns
returns c =
    c.fields.ensures ∙ ap (λ (l : List ℕ). shown (fields_of l c.star_of-star.result) meaning) (body_is c.args.line.now c.star_of-star.ensures)
    ∙ ap (λ (n : ℕ). shown (fields_of (body_of c.args.line.now) n) meaning) c.star_of-star.ensures ∙ sealed_fields c.args.line.now (sym c.sealed.ensures
    ∙ c.if-not-sealed.false)
