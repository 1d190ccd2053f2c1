-- `request::sentence::sealed` meets its contract.
use Rattle.numbers.proofs.Prelude.{sym, ap, ◌∙◌, arith}
use Rattle.request.proofs.{Replied.{seal_star, seal_count, seal_high, seal_low, body_is, seal_none}}
use Rattle.request.specs.Text.{xors}
use Rattle.request.proofs.sentence.sealed.Goals as goal

pub returns-then-star-lt1 : goal.returns-then-star-lt1
returns-then-star-lt1 c =
    seal_none c.args.line.now c.star_of-star.ensures c.if-star-lt1.true c.requires

pub returns-then-line-star-ne42 : goal.returns-then-line-star-ne42
returns-then-line-star-ne42 c =
    seal_star c.args.line.now c.star_of-star.ensures c.if-line-star-ne42.true

pub returns-then-count-ne1 : goal.returns-then-count-ne1
returns-then-count-ne1 c =
    seal_count c.args.line.now c.star_of-star.ensures c.if-line-star-ne42.false (λ e. c.if-count-ne1.true (c.count.ensures ∙ e))

pub returns-then-not-is_hex : goal.returns-then-not-is_hex
returns-then-not-is_hex c =
    seal_high c.args.line.now c.star_of-star.ensures c.if-line-star-ne42.false (sym c.count.ensures ∙ c.if-count-ne1.false) (c.xors-sum.ensures
    ∙ ap xors (body_is c.args.line.now c.star_of-star.ensures)) (sym c.is_hex.ensures ∙ c.if-not-is_hex.true)

pub returns : goal.returns
returns c =
    c.is_hex-2.ensures ∙ seal_low c.args.line.now c.star_of-star.ensures c.if-line-star-ne42.false (sym c.count.ensures ∙ c.if-count-ne1.false) (c.xors-sum.ensures
    ∙ ap xors (body_is c.args.line.now c.star_of-star.ensures)) (sym c.is_hex.ensures ∙ c.if-not-is_hex.false)
