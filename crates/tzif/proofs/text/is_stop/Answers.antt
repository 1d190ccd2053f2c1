-- `tzif::text::is_stop` meets its contract.
use Rattle.numbers.proofs.Prelude.{eq-eqb, ne_eqb, refl}
use Rattle.tzif.specs.Text.{is_stop}
use Rattle.tzif.proofs.text.is_stop.Goals as goal

pub returns-then-byte-eq0 : goal.returns-then-byte-eq0
unfolding is_stop
returns-then-byte-eq0 c =
    rw (eq-eqb _ _ c.if-byte-eq0.true) refl

pub returns : goal.returns
unfolding is_stop
returns c =
    rw (ne_eqb _ _ c.if-byte-eq0.false) refl
