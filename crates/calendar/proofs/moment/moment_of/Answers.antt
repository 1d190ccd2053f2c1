-- `calendar::moment::moment_of` meets its contract: each way out is a case of `MomentOf`.
use Rattle.numbers.proofs.Prelude.{w64, to_z-of_z}
use Rattle.calendar.proofs.moment.{Shift.{before, after, sum_fits, cast_fits, inside}}
use Rattle.calendar.proofs.moment.moment_of.Goals as goal

pub returns-then-instant-ltminus62135596800 : goal.returns-then-instant-ltminus62135596800
returns-then-instant-ltminus62135596800 c =
    before _ _ (to_z-of_z w64 _ c.ranges.instant) c.if-instant-ltminus62135596800.true

pub returns-then-instant-gt253402300799 : goal.returns-then-instant-gt253402300799
returns-then-instant-gt253402300799 c =
    after _ _ (to_z-of_z w64 _ c.ranges.instant) c.if-instant-gt253402300799.true

pub returns : goal.returns
returns c =
    inside _ _ (to_z-of_z w64 _ c.ranges.instant) c.if-instant-ltminus62135596800.false c.if-instant-gt253402300799.false
