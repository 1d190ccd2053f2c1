-- `writer::checks::is_sized` meets its contract.
use Rattle.numbers.proofs.Prelude.{eq-eqb, ne_eqb, lt-ltb, le-ltb, length, arith}
use Rattle.writer.specs.Writer.{sized}
use Rattle.writer.proofs.checks.is_sized.Goals as goal

pub returns-then-lats-lons : goal.returns-then-lats-lons
unfolding sized
returns-then-lats-lons c =
    rw (ne_eqb _ _ c.if-lats-lons.true)

pub returns-then-lats-gt0 : goal.returns-then-lats-gt0
unfolding sized
returns-then-lats-gt0 c =
    rw (eq-eqb _ _ c.if-lats-lons.false, lt-ltb 0 (length c.args.lats.now) c.if-lats-gt0.true)

pub returns-else-lats-gt0 : goal.returns-else-lats-gt0
unfolding sized
returns-else-lats-gt0 c =
    rw (eq-eqb _ _ c.if-lats-lons.false, le-ltb 0 (length c.args.lats.now) c.if-lats-gt0.false)
