-- `bundle::head::read_head` meets its contract.
use Rattle.numbers.{proofs.Prelude.{sym, ap, ◌∙◌, arith}, specs.Reply.{refused}}
use Rattle.bundle.proofs.{Entries.{bundle_long, head_1, head_2, head_3, head_4, head_5, head_6}}
use Rattle.bundle.proofs.head.read_head.Goals as goal

pub returns-then-not-is_bundle : goal.returns-then-not-is_bundle
returns-then-not-is_bundle c =
    ap refused c.at.ensures ∙ head_1 c.args.bundle.now (sym c.is_bundle.ensures ∙ c.if-not-is_bundle.true)

pub returns-then-bundle-ne0 : goal.returns-then-bundle-ne0
returns-then-bundle-ne0 c =
    ap refused c.at-then-bundle-ne0.ensures ∙ head_2 c.args.bundle.now (sym c.is_bundle.ensures ∙ c.if-not-is_bundle.false) c.if-bundle-ne0.true

pub returns-then-not-is_index : goal.returns-then-not-is_index
returns-then-not-is_index c =
    ap refused c.at-then-not-is_index.ensures ∙ head_3 c.args.bundle.now (sym c.is_bundle.ensures
    ∙ c.if-not-is_bundle.false) c.if-bundle-ne0.false c.word_at-index.ensures.0 (sym c.is_index.ensures ∙ c.if-not-is_index.true)

pub returns-then-not-is_data : goal.returns-then-not-is_data
returns-then-not-is_data c =
    ap refused c.at-then-not-is_data.ensures ∙ head_4 c.args.bundle.now (sym c.is_bundle.ensures
    ∙ c.if-not-is_bundle.false) c.if-bundle-ne0.false c.word_at-index.ensures.0 (sym c.is_index.ensures
    ∙ c.if-not-is_index.false) c.word_at-start.ensures.0 (sym c.is_data.ensures ∙ c.if-not-is_data.true)

pub returns-then-not-is_end : goal.returns-then-not-is_end
returns-then-not-is_end c =
    ap refused c.at-then-not-is_end.ensures ∙ head_5 c.args.bundle.now (sym c.is_bundle.ensures
    ∙ c.if-not-is_bundle.false) c.if-bundle-ne0.false c.word_at-index.ensures.0 (sym c.is_index.ensures
    ∙ c.if-not-is_index.false) c.word_at-start.ensures.0 (sym c.is_data.ensures ∙ c.if-not-is_data.false) c.word_at-end.ensures.0 (sym c.is_end.ensures
    ∙ c.if-not-is_end.true)

pub returns : goal.returns
returns c =
    head_6 c.args.bundle.now (sym c.is_bundle.ensures ∙ c.if-not-is_bundle.false) c.if-bundle-ne0.false c.word_at-index.ensures.0 (sym c.is_index.ensures
    ∙ c.if-not-is_index.false) c.word_at-start.ensures.0 (sym c.is_data.ensures ∙ c.if-not-is_data.false) c.word_at-end.ensures.0 (sym c.is_end.ensures
    ∙ c.if-not-is_end.false)
