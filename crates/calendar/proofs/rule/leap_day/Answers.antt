-- `calendar::rule::leap_day` meets its contract.
use Rattle.calendar.proofs.{Sums.{leap_early, leap_late, leap_never}}
use Rattle.calendar.proofs.rule.leap_day.Goals as goal

pub returns-then-n-lt60 : goal.returns-then-n-lt60
returns-then-n-lt60 c =
    leap_early _ c.is_leap.ensures _ c.if-is_leap.true c.if-n-lt60.true

pub returns-then-is_leap : goal.returns-then-is_leap
returns-then-is_leap c =
    leap_late _ c.is_leap.ensures _ c.if-is_leap.true c.if-n-lt60.false

pub returns : goal.returns
returns c =
    leap_never _ c.is_leap.ensures _ c.if-is_leap.false
