-- `calendar::civil::local_moment` meets its contract: no i32 leads from outside the bounds into the years.
use Rattle.numbers.proofs.Prelude.{w64, to_z-of_z}
use Rattle.calendar.proofs.civil.{Clock.{too_early, too_late, offset_fits, sum_fits, of_sum}}
use Rattle.calendar.proofs.civil.local_moment.Goals as goal

pub returns-then-instant-ltminus70000000000 : goal.returns-then-instant-ltminus70000000000
returns-then-instant-ltminus70000000000 c =
    too_early _ _ _ (to_z-of_z w64 _ c.ranges.instant) c.ranges.offset c.if-instant-ltminus70000000000.true

pub returns-then-instant-gt260000000000 : goal.returns-then-instant-gt260000000000
returns-then-instant-gt260000000000 c =
    too_late _ _ _ (to_z-of_z w64 _ c.ranges.instant) c.ranges.offset c.if-instant-gt260000000000.true
