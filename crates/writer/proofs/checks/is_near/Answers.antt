-- `writer::checks::is_near` meets its contract.
use mir.Facts.{to_z-of_z}
use Rattle.writer.proofs.{Elements.{near_is}}
use Rattle.writer.proofs.checks.is_near.Goals as goal

pub returns-then-z-geminus1073741823 : goal.returns-then-z-geminus1073741823
returns-then-z-geminus1073741823 c =
    rw (to_z-of_z c.ranges.z) (rw (rw (to_z-of_z c.ranges.z) at c.if-z-geminus1073741823.true) at (near_is c.args.z))

pub returns-else-z-geminus1073741823 : goal.returns-else-z-geminus1073741823
returns-else-z-geminus1073741823 c =
    rw (to_z-of_z c.ranges.z, rw (to_z-of_z c.ranges.z) at c.if-z-geminus1073741823.false) (rw (rw (to_z-of_z c.ranges.z) at c.if-z-geminus1073741823.false) at (near_is c.args.z))
