-- A summer, computed: what the theorems speak of is met. Assumes nothing.
use Rattle.numbers.proofs.Prelude.{◌+◌, ◌*◌, le-ltb, true, ◌≡◌, arith}
use Rattle.calendar.{proofs.Laws.{days_closed}, specs.{Calendar.{is_leap}, Rules.{leap_day, day_of, IsWhen}, declared.rule.When.TheVariants.{Julian, Zero}}}
use Rattle.tzrule.proofs.SummerAt.{summer_some}
use Rattle.tzrule.specs.{Summer.{start_of, close_of, is_summer, IsRule}, declared.rule.Rule.{Rule}}
use Rattle.tzrule.specs.Summer as summer

-- `AAA-14BBB,0/0,J60/0`: the summer of 2001 begins on 31 December 2000 at 10:00 UT
abbrev far : Rule
far = record {
  standard = record { name = record { start = 0; end = 3 }; west = 554400 };
  daylight = record { name = record { start = 6; end = 9 }; west = 550800 };
  start = record { when = Zero 0; time = 604800 };
  end = record { when = Julian 60; time = 604800 };
}

far_rule : IsRule far
unfolding IsWhen
far_rule = record { standard = omega arith; daylight = omega arith; start = record { when = omega arith; time = omega arith }; end = record { when = omega arith; time = omega arith } }

far_start : start_of far 2400 ≡ 86400 * 876582 + 604800 + 554400
unfolding start_of summer.change_of day_of
far_start = omega (arith, days_closed 2400)

far_end : summer.end_of far 2400 ≡ 86400 * 876641 + 604800 + 550800
unfolding summer.end_of summer.change_of day_of leap_day is_leap
far_end = omega (arith, days_closed 2400)

far_close : close_of far 2400 ≡ 86400 * 876641 + 604800 + 550800
unfolding close_of
far_close = simp (le-ltb (summer.end_of far 2400) (start_of far 2400) (omega (arith, far_start, far_end))) far_end

-- on 31 December 2000 at 12:00 UT it is summer: that of the year after the instant's
pub year_after : is_summer far (86400 * 876581 + 43200 + 1209600) ≡ true
year_after = (summer_some far _ far_rule).1 (record { year = 2400; inside = record { from = omega (arith, far_start); to = omega (arith, far_close) } })
