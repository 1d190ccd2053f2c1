-- `request::degrees::decimal` meets its contract.
use Rattle.numbers.{proofs.Prelude.{ℕ, ◌+◌, drop, sym, ap, ◌∙◌, arith}, specs.Reply.{refused}}
use Rattle.request.proofs.{Numerals.{form_holds, tens, decimal_none, decimal_long, decimal_formless, decimal_limited, decimals_small, whole_is}}
use Rattle.request.specs.{Number.{value_from}, Request.{at}, Told.{IsSize}, declared.number.Digits.{Digits}}
use Rattle.request.proofs.degrees.decimal.Goals as goal

pub returns-then-whole-lt1 : goal.returns-then-whole-lt1
unfolding IsSize
returns-then-whole-lt1 c =
    (ap refused c.at.ensures ∙ ap (at c.args.place) (decimal_none c.args.limit c.args.text.now (whole_is _ _ c.find-whole.ensures.0) c.if-whole-lt1.true), tt)

pub returns-then-whole-gt3 : goal.returns-then-whole-gt3
unfolding IsSize
returns-then-whole-gt3 c = (
  ap refused c.at-then-whole-gt3.ensures ∙ ap (at c.args.place) (decimal_long c.args.limit c.args.text.now (whole_is _ _ c.find-whole.ensures.0)
      c.if-whole-lt1.false c.if-whole-gt3.true),
  tt,
)

pub returns-then-not-has_form : goal.returns-then-not-has_form
unfolding IsSize
returns-then-not-has_form c = (
  ap refused c.at-then-not-has_form.ensures ∙ ap (at c.args.place) (decimal_formless c.args.limit c.args.text.now (whole_is _ _ c.find-whole.ensures.0)
      c.if-whole-lt1.false c.if-whole-gt3.false (sym c.has_form.ensures ∙ c.if-not-has_form.true)),
  tt,
)

pub decimals-behind-requires : goal.decimals-behind-requires
decimals-behind-requires c =
    let held = form_holds c.find-whole.result 9 c.args.text.now (sym c.has_form.ensures ∙ c.if-not-has_form.false) in
    (omega (arith, c.part-start.ensures.1, tens c.if-whole-gt3.false), omega arith)

pub limited-requires : goal.limited-requires
limited-requires c =
    let held = form_holds c.find-whole.result 9 c.args.text.now (sym c.has_form.ensures ∙ c.if-not-has_form.false) in
    let s = decimals_small c.args.text.now (c.find-whole.result + 1) c.part-start.result (omega (arith, c.part-start.ensures.1, tens c.if-whole-gt3.false)) (omega
    arith) (ap (λ (d : Digits). d.value) c.decimals-behind.ensures) (ap (λ (d : Digits). d.scale) c.decimals-behind.ensures) in
    (s.some, omega (arith, s), c.requires)

pub returns : goal.returns
returns c =
    let text = c.args.text.now in
    let value = ap (λ (d : Digits). d.value) c.decimals-behind.ensures ∙ ap (λ (n : ℕ). value_from n (drop (c.find-whole.result + 1) text)) c.part-start.ensures.0 in (
      c.limited.ensures.0 ∙ ap (at c.args.place) (decimal_limited c.args.limit text (whole_is _ _ c.find-whole.ensures.0) c.if-whole-lt1.false c.if-whole-gt3.false
          (sym c.has_form.ensures ∙ c.if-not-has_form.false) (ap (λ (d : Digits). d.scale) c.decimals-behind.ensures) value),
      c.limited.ensures.1,
    )
