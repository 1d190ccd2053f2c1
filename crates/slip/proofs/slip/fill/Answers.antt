-- `slip::slip::fill` meets its contract.
use Rattle.numbers.{proofs.Prelude.{sym, ap, ◌∙◌}, specs.Reply.{refused}}
use Rattle.slip.proofs.{Locals.{as_passed}, Stamps.{At, not_placed, not_opened, opened}}
use Rattle.slip.proofs.slip.fill.Goals as goal

pub returns-then-not-is_on_globe : goal.returns-then-not-is_on_globe
returns-then-not-is_on_globe c =
    not_placed c.args.fix _ _ _ _ _ _ _ _ _ (sym c.is_on_globe.ensures ∙ c.if-not-is_on_globe.true) c.alone.ensures

pub returns-in_err-head : goal.returns-in_err-head
returns-in_err-head c =
    as_passed (At c.args.fix _ _ _ _ _ _ _ _ _) _ c.from_residual.ensures.1 (not_opened c.args.fix _ _ _ _ _ _ (sym c.is_on_globe.ensures ∙ c.if-not-is_on_globe.false) _ _ _ (sym c.in_err-head.was ∙ c.head_of.ensures))

pub returns : goal.returns
returns c =
    opened c.args.fix _ _ _ _ _ _ (sym c.is_on_globe.ensures ∙ c.if-not-is_on_globe.false) _ _ _ _ (sym c.in_ok-head.was ∙ c.head_of.ensures) c.slip_in.ensures
