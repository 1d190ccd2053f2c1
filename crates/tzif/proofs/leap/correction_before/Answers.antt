-- `tzif::leap::correction_before` meets its contract.
use Rattle.numbers.proofs.Prelude.{eq-eqb, ne_eqb, refl, arith}
use Rattle.tzif.specs.Check.{correction_before}
use Rattle.tzif.proofs.leap.correction_before.Goals as goal

pub returns-then-i-eq0 : goal.returns-then-i-eq0
unfolding correction_before
returns-then-i-eq0 c =
    record { same = rw (eq-eqb _ _ c.if-i-eq0.true) refl; fits = omega arith }

pub returns : goal.returns
unfolding correction_before
returns c =
    rw (ne_eqb _ _ c.if-i-eq0.false) c.correction_of.ensures
