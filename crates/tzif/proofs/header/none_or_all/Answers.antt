-- `tzif::header::none_or_all` meets its contract.
use Rattle.numbers.proofs.Prelude.{eq-eqb, ne_eqb, refl}
use Rattle.tzif.specs.Header.{none_or_all}
use Rattle.tzif.proofs.header.none_or_all.Goals as goal

pub returns-then-count-eq0 : goal.returns-then-count-eq0
unfolding none_or_all
returns-then-count-eq0 c =
    rw (eq-eqb _ _ c.if-count-eq0.true) refl

pub returns : goal.returns
unfolding none_or_all
returns c =
    rw (ne_eqb _ _ c.if-count-eq0.false) refl
