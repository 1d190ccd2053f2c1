-- `request::read::read_request` meets its contract.
use Rattle.numbers.{proofs.Prelude.{sym, ap, ◌∙◌, arith}, specs.Reply.{refused}}
use Rattle.request.proofs.{Replied.{too_long, as_sentence, as_plain}}
use Rattle.request.specs.Text.{unended}
use Rattle.request.proofs.read.read_request.Goals as goal

pub returns-then-line-gt255 : goal.returns-then-line-gt255
returns-then-line-gt255 c =
    let line = c.without-line.ensures ∙ ap (unended 13) c.without.ensures in
    ap refused c.at.ensures ∙ too_long c.args.text.now _ line c.if-line-gt255.true

pub returns-then-first-eq36 : goal.returns-then-first-eq36
returns-then-first-eq36 c =
    let line = c.without-line.ensures ∙ ap (unended 13) c.without.ensures in
    c.sentence.ensures ∙ as_sentence c.args.text.now _ line c.if-line-gt255.false (sym c.first.ensures ∙ c.if-first-eq36.true)

pub returns : goal.returns
returns c =
    let line = c.without-line.ensures ∙ ap (unended 13) c.without.ensures in
    c.plain.ensures ∙ as_plain c.args.text.now _ line c.if-line-gt255.false (λ e. c.if-first-eq36.false (c.first.ensures ∙ e))
