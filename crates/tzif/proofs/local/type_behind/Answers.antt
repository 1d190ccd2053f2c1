-- `tzif::local::type_behind` meets its contract.
use Rattle.numbers.proofs.Prelude.{eq-eqb, ne_eqb, refl, arith}
use Rattle.tzif.specs.Local.{type_behind}
use Rattle.tzif.proofs.local.type_behind.Goals as goal

pub returns-then-n-eq0 : goal.returns-then-n-eq0
unfolding type_behind
returns-then-n-eq0 c =
    rw (eq-eqb _ _ c.if-n-eq0.true) refl

pub indices_of-requires : goal.indices_of-requires
unfolding type_behind
indices_of-requires c =
    omega (arith, c.requires.good.within.end)

pub overflow_add-indices_of : goal.overflow_add-indices_of
unfolding type_behind
overflow_add-indices_of c =
    omega (arith, c.requires.good.within.end, c.indices_of.ensures)

pub octet-requires : goal.octet-requires
octet-requires c =
    omega (arith, c.requires.good.within.end, c.indices_of.ensures, c.if-n-eq0.false)

pub returns : goal.returns
unfolding type_behind
returns c =
    rw (ne_eqb _ _ c.if-n-eq0.false, ← c.indices_of.ensures) c.octet.ensures.same
