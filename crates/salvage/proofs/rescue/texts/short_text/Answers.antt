-- `salvage::rescue::texts::short_text` meets its contract.
use Rattle.numbers.{proofs.{Prelude.{◌≡◌, sym, ap, ◌∙◌}, Replies.{passed_on}}, specs.Reply.{refused, plain, ◌or_else◌}}
use Rattle.header.specs.Text.{string_at}
use Rattle.salvage.proofs.rescue.texts.{Texting.{short_fits, short_long, short_refused}}
use Rattle.salvage.proofs.rescue.texts.short_text.Goals as goal

pub returns-in_err-text : goal.returns-in_err-text
returns-in_err-text c =
    let read : c.or_refuse.result ≡ (string_at c.args.strict c.args.file.now 0 c.args.place or_else plain 26)
    = c.or_refuse.ensures ∙ (λ i. c.read_string.ensures i or_else c.alone.ensures i) in
    passed_on _ c.from_residual.ensures.1 ∙ short_refused _ _ _ (sym c.in_err-text.was ∙ read)

pub returns-then-text-gt-LONGEST_TEXT : goal.returns-then-text-gt-LONGEST_TEXT
returns-then-text-gt-LONGEST_TEXT c =
    let read : c.or_refuse.result ≡ (string_at c.args.strict c.args.file.now 0 c.args.place or_else plain 26)
    = c.or_refuse.ensures ∙ (λ i. c.read_string.ensures i or_else c.alone.ensures i) in
    ap refused c.alone-then-text-gt-LONGEST_TEXT.ensures ∙ short_long _ _ _ (sym c.in_ok-text.was ∙ read) c.if-text-gt-LONGEST_TEXT.true

pub returns : goal.returns
returns c =
    let read : c.or_refuse.result ≡ (string_at c.args.strict c.args.file.now 0 c.args.place or_else plain 26)
    = c.or_refuse.ensures ∙ (λ i. c.read_string.ensures i or_else c.alone.ensures i) in
    short_fits _ _ _ (sym c.in_ok-text.was ∙ read) c.if-text-gt-LONGEST_TEXT.false
