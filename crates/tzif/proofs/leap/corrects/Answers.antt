-- `tzif::leap::corrects` meets its contract.
use Rattle.numbers.proofs.Prelude.{eq-eqb, ne_eqb, refl}
use Rattle.tzif.proofs.leap.corrects.Goals as goal

pub returns-then-i-ne0 : goal.returns-then-i-ne0
returns-then-i-ne0 c =
    rw (ne_eqb _ _ c.if-i-ne0.true) c.one_apart.ensures

pub returns-then-fourth : goal.returns-then-fourth
returns-then-fourth c =
    rw (eq-eqb _ _ c.if-i-ne0.false, c.if-fourth.true) refl

pub returns : goal.returns
returns c =
    rw (eq-eqb _ _ c.if-i-ne0.false, c.if-fourth.false) c.one_apart-2.ensures
