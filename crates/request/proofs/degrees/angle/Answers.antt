-- `request::degrees::angle` meets its contract.
use Rattle.numbers.{proofs.Prelude.{ℕ, ◌+◌, ◌*◌, drop, sym, ap, ◌∙◌, arith}, specs.Reply.{refused}}
use Rattle.request.proofs.{Numerals.{form_holds, angle_formless, angle_over, angle_limited, decimals_small, degrees_small}}
use Rattle.request.specs.{Number.{value_from, part_of}, Request.{at}, Told.{IsSize}, declared.number.Digits.{Digits}}
use Rattle.request.proofs.degrees.angle.Goals as goal

pub returns-then-not-has_form : goal.returns-then-not-has_form
unfolding IsSize
returns-then-not-has_form c =
    (ap refused c.at.ensures ∙ ap (at c.args.place) (angle_formless c.args.width c.args.limit c.args.text.now (sym c.has_form.ensures ∙ c.if-not-has_form.true)), tt)

pub part-minutes-requires : goal.part-minutes-requires
part-minutes-requires c =
    let held = form_holds (c.args.width + 2) 9 c.args.text.now (sym c.has_form.ensures ∙ c.if-not-has_form.false) in
    (omega arith, held.0)

pub returns-then-minutes-gt59 : goal.returns-then-minutes-gt59
unfolding IsSize
returns-then-minutes-gt59 c = (
  ap refused c.at-then-minutes-gt59.ensures ∙ angle_over c.args.width c.args.limit c.args.text.now (sym c.has_form.ensures
      ∙ c.if-not-has_form.false) (omega (arith, c.part-minutes.ensures.0, c.if-minutes-gt59.true)) c.args.place,
  tt,
)

pub part-degrees-requires : goal.part-degrees-requires
part-degrees-requires c =
    let held = form_holds (c.args.width + 2) 9 c.args.text.now (sym c.has_form.ensures ∙ c.if-not-has_form.false) in
    (omega (arith, c.requires), omega arith)

pub decimals-behind-requires : goal.decimals-behind-requires
decimals-behind-requires c =
    let held = form_holds (c.args.width + 2) 9 c.args.text.now (sym c.has_form.ensures ∙ c.if-not-has_form.false) in
    (omega (arith, c.if-minutes-gt59.false), omega arith)

pub overflow_mul-den : goal.overflow_mul-den
overflow_mul-den c =
    let held = form_holds (c.args.width + 2) 9 c.args.text.now (sym c.has_form.ensures ∙ c.if-not-has_form.false) in
    let s = decimals_small c.args.text.now (c.args.width + 3) c.part-minutes.result (omega (arith, c.if-minutes-gt59.false)) (omega arith) (ap (λ (d : Digits).
    d.value) c.decimals-behind.ensures) (ap (λ (d : Digits). d.scale) c.decimals-behind.ensures) in
    omega (arith, s)

pub overflow_mul-num : goal.overflow_mul-num
overflow_mul-num c =
    let held = form_holds (c.args.width + 2) 9 c.args.text.now (sym c.has_form.ensures ∙ c.if-not-has_form.false) in
    let s = decimals_small c.args.text.now (c.args.width + 3) c.part-minutes.result (omega (arith, c.if-minutes-gt59.false)) (omega arith) (ap (λ (d : Digits).
    d.value) c.decimals-behind.ensures) (ap (λ (d : Digits). d.scale) c.decimals-behind.ensures) in
    omega (arith, degrees_small c.part-degrees.result c.args.width (60 * c.decimals-behind.result.scale) c.part-degrees.ensures.1 c.requires.0 (omega (arith, s)))

pub overflow_add-num : goal.overflow_add-num
overflow_add-num c =
    let held = form_holds (c.args.width + 2) 9 c.args.text.now (sym c.has_form.ensures ∙ c.if-not-has_form.false) in
    let s = decimals_small c.args.text.now (c.args.width + 3) c.part-minutes.result (omega (arith, c.if-minutes-gt59.false)) (omega arith) (ap (λ (d : Digits).
    d.value) c.decimals-behind.ensures) (ap (λ (d : Digits). d.scale) c.decimals-behind.ensures) in
    omega (
      arith,
      s.small,
      degrees_small c.part-degrees.result c.args.width (60 * c.decimals-behind.result.scale) c.part-degrees.ensures.1 c.requires.0 (omega
          (arith, s)),
    )

pub limited-requires : goal.limited-requires
limited-requires c =
    let held = form_holds (c.args.width + 2) 9 c.args.text.now (sym c.has_form.ensures ∙ c.if-not-has_form.false) in
    let s = decimals_small c.args.text.now (c.args.width + 3) c.part-minutes.result (omega (arith, c.if-minutes-gt59.false)) (omega arith) (ap (λ (d : Digits).
    d.value) c.decimals-behind.ensures) (ap (λ (d : Digits). d.scale) c.decimals-behind.ensures) in
    (omega (arith, s), omega (arith, s), c.requires.1)

pub returns : goal.returns
returns c =
    let text = c.args.text.now in
    let width = c.args.width in
    let value = ap (λ (d : Digits). d.value) c.decimals-behind.ensures ∙ ap (λ (n : ℕ). value_from n (drop (width + 3) text)) c.part-minutes.ensures.0 in
    let den = ap (λ (d : Digits). 60 * d.scale) c.decimals-behind.ensures in
    let num = ap (λ (n : ℕ). n * (60 * c.decimals-behind.result.scale) + c.decimals-behind.result.value) c.part-degrees.ensures.0
    ∙ ap (λ (n : ℕ). part_of 0 width text * (60 * c.decimals-behind.result.scale) + n) value in (
      c.limited.ensures.0 ∙ ap (at c.args.place) (angle_limited width c.args.limit text (sym c.has_form.ensures
          ∙ c.if-not-has_form.false) (omega (arith, c.part-minutes.ensures.0, c.if-minutes-gt59.false)) den num),
      c.limited.ensures.1,
    )
