-- `tzrule::ask::clock_at` meets its contract.
use Rattle.numbers.proofs.Prelude.{arith}
use Rattle.tzrule.proofs.ask.{Ways.{years_range, since_years, since_summer, ruled_is, fixed_clock, summer_clock, winter_clock}}
use Rattle.tzrule.proofs.ask.clock_at.Goals as goal

pub overflow_sub-u : goal.overflow_sub-u
overflow_sub-u c =
    omega (arith, years_range _ c.requires.0)

pub summer_at-requires : goal.summer_at-requires
summer_at-requires c =
    (ruled_is c.in-Changing.is c.requires.1, since_years _ c.requires.0)

pub returns-then-summer_at : goal.returns-then-summer_at
returns-then-summer_at c =
    summer_clock _ c.in-Changing.is (since_summer _ _ c.requires.0 c.summer_at.ensures) c.if-summer_at.true

pub returns-in-Fixed : goal.returns-in-Fixed
returns-in-Fixed c =
    fixed_clock _ _ c.in-Fixed.is

pub returns-else-summer_at : goal.returns-else-summer_at
returns-else-summer_at c =
    winter_clock _ c.in-Changing.is (since_summer _ _ c.requires.0 c.summer_at.ensures) c.if-summer_at.false
