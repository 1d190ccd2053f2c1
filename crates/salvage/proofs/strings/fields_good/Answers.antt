-- `salvage::strings::fields_good` meets its contract. The loop's invariant: what is left of the fields says what all say.
use Rattle.numbers.proofs.{Prelude.{ℕ, ◌-◌, ◌+◌, ◌≡◌, sym, ap, ◌∙◌, arith}, Replies.{passed_on}}
use Rattle.salvage.proofs.strings.{Placing.{fields_none, fields_stop, fields_go}}
use Rattle.salvage.specs.Kept.{fields_good}
use Rattle.salvage.proofs.strings.fields_good.Goals as goal

pub returns-in_err-here : goal.returns-in_err-here
returns-in_err-here c =
    passed_on _ c.from_residual.ensures.1 ∙ fields_stop _ _ (c.args.count - c.loop.counter) _ (omega (arith, c.loop-test.true)) (sym c.in_err-here.was
    ∙ c.field_good.ensures) ∙ c.loop.invariant

pub loop-preserved : goal.loop-preserved
loop-preserved c =
    let less : c.args.count - (c.loop.counter + 1) ≡ c.args.count - c.loop.counter - 1 = omega arith in
    ap (λ (n : ℕ). fields_good c.args.file.now c.args.head n c.in_ok-here.here) less ∙ fields_go _ _ (c.args.count - c.loop.counter) _ (omega (
      arith,
      c.loop-test.true,
    )) (sym c.in_ok-here.was ∙ c.field_good.ensures) ∙ c.loop.invariant

pub returns : goal.returns
returns c =
    fields_none _ _ (c.args.count - c.loop.counter) _ (omega (arith, c.loop-test.false)) ∙ c.loop.invariant
