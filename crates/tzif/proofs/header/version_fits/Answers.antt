-- `tzif::header::version_fits` meets its contract.
use Rattle.numbers.proofs.Prelude.{◌+◌, leb-true, length, refl, sym, ◌∙◌, arith}
use Rattle.tzif.specs.Header.{version_fits}
use Rattle.tzif.proofs.header.version_fits.Goals as goal

pub returns-then-not-holds : goal.returns-then-not-holds
unfolding version_fits
returns-then-not-holds c =
    rw (← c.holds.ensures, c.if-not-holds.true) refl

pub octet-version-requires : goal.octet-version-requires
octet-version-requires c =
    omega (arith, leb-true (c.args.at + 5) (length c.args.file.now) (sym c.holds.ensures ∙ c.if-not-holds.false))

pub octet-requires : goal.octet-requires
octet-requires c =
    omega (arith, leb-true (c.args.at + 5) (length c.args.file.now) (sym c.holds.ensures ∙ c.if-not-holds.false))

pub returns-then-wide : goal.returns-then-wide
unfolding version_fits
returns-then-wide c =
    rw (← c.holds.ensures, c.if-not-holds.false, c.if-wide.true) (cc)

pub returns : goal.returns
unfolding version_fits
returns c =
    rw (← c.holds.ensures, c.if-not-holds.false, c.if-wide.false) (cc)
