-- `tzif::leap::is_expiry` meets its contract.
use Rattle.numbers.proofs.Prelude.{◌+◌, eq-eqb, ne_eqb, refl, arith}
use Rattle.tzif.specs.Check.{is_expiry}
use Rattle.tzif.proofs.leap.is_expiry.Goals as goal

pub returns-then-i-eq0 : goal.returns-then-i-eq0
unfolding is_expiry
returns-then-i-eq0 c =
    rw (eq-eqb _ _ c.if-i-eq0.true) refl

pub returns-then-i-block : goal.returns-then-i-block
unfolding is_expiry
returns-then-i-block c =
    rw (ne_eqb _ _ c.if-i-eq0.false, ne_eqb (c.args.i + 1) c.args.block.leapcnt (λ e. omega (arith, e, c.if-i-block.true))) refl

pub returns : goal.returns
unfolding is_expiry
returns c =
    rw (
      ne_eqb _ _ c.if-i-eq0.false,
      eq-eqb (c.args.i + 1) c.args.block.leapcnt (omega (arith, c.if-i-block.false, c.requires.i_lt_leapcnt)),
      ←
          c.correction_of-correction.ensures.same,
      ← c.correction_of-before.ensures.same,
    ) refl
