-- `calendar::civil::civil_time` meets its contract: each way out is a case of `CivilOf`.
use Rattle.numbers.proofs.Prelude.{w32, w64, to_z-of_z}
use Rattle.calendar.proofs.civil.{Clock.{at_days, civil_shown_at, civil_outside}}
use Rattle.calendar.proofs.civil.civil_time.Goals as goal

pub shown-requires : goal.shown-requires
shown-requires c =
    (at_days _ _ _ _ (to_z-of_z w64 _ c.ranges.instant) (to_z-of_z w32 _ c.ranges.offset) _ c.local_moment.ensures c.in_ok-moment.was).0

pub returns : goal.returns
returns c =
    civil_shown_at _ _ _ _ (to_z-of_z w64 _ c.ranges.instant) (to_z-of_z w32 _ c.ranges.offset) _ c.local_moment.ensures c.in_ok-moment.was c.shown.ensures

pub returns-in_err-moment : goal.returns-in_err-moment
returns-in_err-moment c =
    civil_outside _ _ _ _ (to_z-of_z w64 _ c.ranges.instant) (to_z-of_z w32 _ c.ranges.offset) _ c.local_moment.ensures c.in_err-moment.was c.from_residual.ensures
