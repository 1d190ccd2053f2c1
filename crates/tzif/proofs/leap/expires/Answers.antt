-- `tzif::leap::expires` meets its contract.
use Rattle.numbers.proofs.Prelude.{refl}
use Rattle.tzif.proofs.leap.expires.Goals as goal

pub returns-then-fourth : goal.returns-then-fourth
returns-then-fourth c =
    rw c.if-fourth.true c.is_expiry.ensures

pub returns : goal.returns
returns c =
    rw c.if-fourth.false refl
