-- `tzif::header::begins` meets its contract.
use Rattle.numbers.proofs.Prelude.{leb-true, refl, sym, ◌∙◌}
use Rattle.tzif.specs.Header.{begins}
use Rattle.tzif.proofs.header.begins.Goals as goal

pub returns-then-not-holds : goal.returns-then-not-holds
unfolding begins
returns-then-not-holds c =
    rw (← c.holds.ensures, c.if-not-holds.true) refl

pub be32-requires : goal.be32-requires
unfolding begins
be32-requires c =
    leb-true _ _ (sym c.holds.ensures ∙ c.if-not-holds.false)

pub returns : goal.returns
unfolding begins
returns c =
    rw (← c.holds.ensures, c.if-not-holds.false) (cc)
