-- `request::clock::seconds` meets its contract.
use Rattle.numbers.{proofs.Prelude.{ℕ, ◌-◌, ◌≤◌, ◌<◌, eqb, length, take, drop, List, sym, ap, subst, ◌∙◌, arith}, specs.Reply.{refused}}
use Rattle.request.proofs.{Numerals.{value_short}, Texts.{rest_is}, Times.{seconds_none, seconds_long, seconds_formless, seconds_signed}}
use Rattle.request.specs.{Number.{value_of, is_minus}, Request.{at}, Text.{digits}, Told.{signed_to}, declared.number.Digits.{Digits}}
use Rattle.request.proofs.clock.seconds.Goals as goal

pub returns-then-length-lt1 : goal.returns-then-length-lt1
returns-then-length-lt1 c =
    let rest = rest_is c.args.text.now c.sign_size-sign.result ∙ c.sign_size-sign.ensures.0 in
    ap refused c.at.ensures ∙ seconds_none c.args.text.now c.args.place (subst (λ (l : List ℕ). length l < 1) rest c.if-length-lt1.true)

pub returns-then-length-gt19 : goal.returns-then-length-gt19
returns-then-length-gt19 c =
    let rest = rest_is c.args.text.now c.sign_size-sign.result ∙ c.sign_size-sign.ensures.0 in
    ap refused c.at-then-length-gt19.ensures ∙ seconds_long c.args.text.now c.args.place (subst (λ (l : List ℕ). 1 ≤ length l) rest c.if-length-lt1.false)
    (subst (λ (l : List ℕ). 19 < length l) rest c.if-length-gt19.true)

pub returns-then-not-every : goal.returns-then-not-every
returns-then-not-every c =
    let rest = rest_is c.args.text.now c.sign_size-sign.result ∙ c.sign_size-sign.ensures.0 in
    ap refused c.at-then-not-every.ensures ∙ seconds_formless c.args.text.now c.args.place (subst (λ (l : List ℕ). 1 ≤ length l) rest c.if-length-lt1.false)
    (subst (λ (l : List ℕ). length l ≤ 19) rest c.if-length-gt19.false) (ap digits (sym rest) ∙ sym c.every.ensures ∙ c.if-not-every.true)

pub value-size-requires : goal.value-size-requires
value-size-requires c = (
  c.if-length-gt19.false,
  omega (
    arith,
    value_short 0 1 19 (take (length c.args.text.now - c.sign_size-sign.result) (drop c.sign_size-sign.result
        c.args.text.now)) (omega arith) c.if-length-gt19.false,
  ),
)

pub returns : goal.returns
returns c =
    let rest = rest_is c.args.text.now c.sign_size-sign.result ∙ c.sign_size-sign.ensures.0 in
    let size = ap (λ (d : Digits). d.value) c.value-size.ensures ∙ ap value_of rest in
    c.signed.ensures ∙ ap (λ (n : ℕ). at c.args.place (signed_to (eqb n 45) c.value-size.result.value)) c.first-minus.ensures
    ∙ ap (λ (n : ℕ). at c.args.place (signed_to (is_minus c.args.text.now) n)) size ∙ seconds_signed c.args.text.now c.args.place (subst (λ (l : List ℕ). 1 ≤
    length l) rest c.if-length-lt1.false) (subst (λ (l : List ℕ). length l ≤ 19) rest c.if-length-gt19.false) (ap digits (sym rest) ∙ sym c.every.ensures
    ∙ c.if-not-every.false)
