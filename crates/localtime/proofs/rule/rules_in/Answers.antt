-- `localtime::rule::rules_in` meets its contract.
use Rattle.numbers.proofs.Prelude.{eq-eqb, ne_eqb, refl}
use Rattle.localtime.specs.Local.{rules_in}
use Rattle.tzif.proofs.Laws.{passed_on, past, stopped, led_on, ended_by}
use Rattle.localtime.proofs.rule.rules_in.Goals as goal

pub returns-then-zone-eq0 : goal.returns-then-zone-eq0
unfolding rules_in
returns-then-zone-eq0 c =
    (rw (eq-eqb _ _ c.if-zone-eq0.true) refl, tt)

pub returns-in_err-tz : goal.returns-in_err-tz
unfolding rules_in
returns-in_err-tz c = (
  rw (ne_eqb _ _ c.if-zone-eq0.false) (ended_by c.string_in.ensures.0 _ c.in_err-tz.was c.from_residual.ensures.1 _),
  rw (passed_on _ c.from_residual.ensures.1) tt,
)

pub returns-in_err-demand : goal.returns-in_err-demand
unfolding rules_in
returns-in_err-demand c = (
  rw (ne_eqb _ _ c.if-zone-eq0.false) (led_on c.string_in.ensures.0 c.in_ok-tz.was _ (stopped (rw (c.agrees.ensures, c.end_of.ensures) at c.demand.ensures) _ c.in_err-demand.was
      c.from_residual-in_err-demand.ensures.1 _)),
  rw (passed_on _ c.from_residual-in_err-demand.ensures.1) tt,
)

pub returns : goal.returns
unfolding rules_in
returns c = (
  rw (ne_eqb _ _ c.if-zone-eq0.false) (led_on c.string_in.ensures.0 c.in_ok-tz.was _ (past (rw (c.agrees.ensures, c.end_of.ensures) at c.demand.ensures) c.in_ok-demand.was _ refl)),
  c.in_ok-tz.ensures.1,
)
