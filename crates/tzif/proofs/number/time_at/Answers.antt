-- `tzif::number::time_at` meets its contract.
use Rattle.numbers.proofs.Prelude.{eq-eqb, ne_eqb, refl, arith}
use Rattle.tzif.specs.Number.{time_at}
use Rattle.tzif.proofs.number.time_at.Goals as goal

pub be32-requires : goal.be32-requires
unfolding time_at
be32-requires c =
    omega arith

pub be32-requires-then-width-eq8 : goal.be32-requires-then-width-eq8
unfolding time_at
be32-requires-then-width-eq8 c =
    omega arith

pub returns-then-width-eq8 : goal.returns-then-width-eq8
unfolding time_at
returns-then-width-eq8 c =
    rw (eq-eqb _ _ c.if-width-eq8.true, c.raised-high.ensures.same, c.be32.ensures.same, c.be32-then-width-eq8.ensures.same) refl

pub returns-else-width-eq8 : goal.returns-else-width-eq8
unfolding time_at
returns-else-width-eq8 c =
    rw (ne_eqb _ _ c.if-width-eq8.false, c.raised-high.ensures.same, c.be32.ensures.same) refl
