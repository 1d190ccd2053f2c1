-- `tzif::check::is_standard` meets its contract.
use Rattle.numbers.proofs.Prelude.{lt-ltb, le-ltb, refl}
use Rattle.tzif.specs.Check.{is_standard}
use Rattle.tzif.proofs.check.is_standard.Goals as goal

pub returns-then-block-i : goal.returns-then-block-i
unfolding is_standard
returns-then-block-i c =
    rw (le-ltb _ _ c.if-block-i.true) refl

pub returns : goal.returns
unfolding is_standard
returns c =
    rw (lt-ltb _ _ c.if-block-i.false) (cc)
