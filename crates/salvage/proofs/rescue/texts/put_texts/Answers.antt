-- `salvage::rescue::texts::put_texts` meets its contract.
use Rattle.numbers.proofs.{Prelude.{ℕ, ◌-◌, ◌+◌, ◌≡◌, sym, subst, ◌∙◌, arith}, Replies.{passed_on}}
use Rattle.salvage.proofs.rescue.texts.{Texting.{Texting, texts_go, texts_stop, texts_end}}
use Rattle.salvage.proofs.rescue.texts.put_texts.Goals as goal

pub returns-in_err-text : goal.returns-in_err-text
returns-in_err-text c =
    texts_stop _ _ _ _ c.loop.invariant c.loop.out (passed_on _ c.from_residual.ensures.1) (omega (arith, c.loop-test.true)) (sym c.in_err-text.was ∙ c.short_text.ensures)

pub loop-preserved : goal.loop-preserved
loop-preserved c =
    let left = c.args.head.preamble.count + 1 - c.loop.counter in
    let less : left - 1 ≡ c.args.head.preamble.count + 1 - (c.loop.counter + 1) = omega arith in
    subst (λ (n : ℕ). Texting c.args.file.now c.args.head c.args.out.now c.args.at c.put_text-next.new.out n c.in_ok-text.text.next c.put_text-next.result) less
    (texts_go _ _ _ _ c.loop.invariant (omega (arith, c.loop-test.true)) (sym c.in_ok-text.was ∙ c.short_text.ensures) c.put_text-next.ensures)

pub returns : goal.returns
returns c =
    texts_end _ _ _ _ c.loop.invariant (omega (arith, c.loop-test.false))
