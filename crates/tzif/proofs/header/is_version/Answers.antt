-- `tzif::header::is_version` meets its contract.
use Rattle.numbers.proofs.Prelude.{eq-eqb, ne_eqb, refl}
use Rattle.tzif.specs.Header.{is_fourth, is_version}
use Rattle.tzif.proofs.header.is_version.Goals as goal

pub returns-then-version-eq0 : goal.returns-then-version-eq0
unfolding is_version
returns-then-version-eq0 c =
    rw (eq-eqb _ _ c.if-version-eq0.true) refl

pub returns-then-version-eq50 : goal.returns-then-version-eq50
unfolding is_version
returns-then-version-eq50 c =
    rw (ne_eqb _ _ c.if-version-eq0.false, eq-eqb _ _ c.if-version-eq50.true) refl

pub returns-then-version-eq51 : goal.returns-then-version-eq51
unfolding is_version
returns-then-version-eq51 c =
    rw (ne_eqb _ _ c.if-version-eq0.false, ne_eqb _ _ c.if-version-eq50.false, eq-eqb _ _ c.if-version-eq51.true) refl

pub returns : goal.returns
unfolding is_fourth is_version
returns c =
    rw (ne_eqb _ _ c.if-version-eq0.false, ne_eqb _ _ c.if-version-eq50.false, ne_eqb _ _ c.if-version-eq51.false) refl
