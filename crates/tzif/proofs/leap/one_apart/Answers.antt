-- `tzif::leap::one_apart` meets its contract.
use Rattle.numbers.proofs.Prelude.{eq-eqb, ne_eqb, refl}
use Rattle.tzif.specs.Check.{one_apart}
use Rattle.tzif.proofs.leap.one_apart.Goals as goal

pub returns-then-a-b : goal.returns-then-a-b
unfolding one_apart
returns-then-a-b c =
    rw (eq-eqb _ _ c.if-a-b.true) refl

pub returns : goal.returns
unfolding one_apart
returns c =
    rw (ne_eqb _ _ c.if-a-b.false) refl
