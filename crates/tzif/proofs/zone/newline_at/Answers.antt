-- `tzif::zone::newline_at` meets its contract.
use Rattle.numbers.proofs.Prelude.{lt-ltb, le-ltb, refl}
use Rattle.tzif.specs.Zone.{newline_at}
use Rattle.tzif.proofs.zone.newline_at.Goals as goal

pub returns-then-file-at : goal.returns-then-file-at
unfolding newline_at
returns-then-file-at c =
    rw (le-ltb _ _ c.if-file-at.true) refl

pub returns : goal.returns
unfolding newline_at
returns c =
    rw (lt-ltb _ _ c.if-file-at.false) (cc)
