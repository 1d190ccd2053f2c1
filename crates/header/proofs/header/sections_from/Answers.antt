-- `header::header::sections_from` meets its contract.
use Rattle.numbers.{proofs.{Prelude.{◌+◌, ◌^◌, eq-eqb, ne_eqb, lt-ltb, le-ltb, ltb, true, ◌≡◌, sym, ap, ◌∙◌, arith}, Replies.{met, unmet}}, specs.Reply.{refused}}
use Rattle.header.specs.Header.{sections_from}
use Rattle.header.proofs.header.sections_from.Goals as goal

pub returns-then-start-gt4294967295 : goal.returns-then-start-gt4294967295
unfolding sections_from
returns-then-start-gt4294967295 c =
    ap refused c.alone.ensures ∙ unmet (le-ltb (c.args.end + c.args.«data») (2 ^ 32) (omega arith)) _ _

pub returns-in_default : goal.returns-in_default
unfolding sections_from
returns-in_default c =
    let low : ltb (c.args.end + c.args.«data») (2 ^ 32) ≡ true = lt-ltb (c.args.end + c.args.«data») (2 ^ 32) (omega arith) in
    ap refused c.alone-in_default.ensures ∙ unmet (le-ltb (c.args.rest + (c.args.end + c.args.«data»)) (2 ^ 64) (omega (arith, rw c.in_default.is at c.checked_add.ensures))) _ _ ∙ met low _ _

pub returns-then-total-length : goal.returns-then-total-length
unfolding sections_from
returns-then-total-length c =
    let sum = rw c.in-Some.is at c.checked_add.ensures in
    let high : ltb (c.args.rest + (c.args.end + c.args.«data»)) (2 ^ 64) ≡ true = lt-ltb (c.args.rest + (c.args.end + c.args.«data»)) (2 ^ 64) (omega (arith, sum.0)) in
    let low : ltb (c.args.end + c.args.«data») (2 ^ 32) ≡ true = lt-ltb (c.args.end + c.args.«data») (2 ^ 32) (omega arith) in
    ap refused (rw sum.1 at c.with.ensures) ∙ unmet (ne_eqb _ _ (λ e. c.if-total-length.true (sum.1 ∙ e))) _ _ ∙ met high _ _ ∙ met low _ _

pub returns : goal.returns
unfolding sections_from
returns c =
    let sum = rw c.in-Some.is at c.checked_add.ensures in
    let high : ltb (c.args.rest + (c.args.end + c.args.«data»)) (2 ^ 64) ≡ true = lt-ltb (c.args.rest + (c.args.end + c.args.«data»)) (2 ^ 64) (omega (arith, sum.0)) in
    let low : ltb (c.args.end + c.args.«data») (2 ^ 32) ≡ true = lt-ltb (c.args.end + c.args.«data») (2 ^ 32) (omega arith) in
    met (eq-eqb _ _ (sym sum.1 ∙ c.if-total-length.false)) _ _ ∙ met high _ _ ∙ met low _ _
