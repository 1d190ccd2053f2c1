-- `calendar::rule::weeks_of` meets its contract.
use Rattle.numbers.proofs.Prelude.{arith}
use Rattle.calendar.proofs.{Sums.{weeks_all, weeks_cut}}
use Rattle.calendar.proofs.rule.weeks_of.Goals as goal

pub returns-then-week-length : goal.returns-then-week-length
returns-then-week-length c =
    weeks_all _ c.is_leap.ensures c.args.month _ c.month_length-length.ensures (omega (arith, c.if-week-length.true))

pub returns : goal.returns
returns c =
    weeks_cut _ c.is_leap.ensures c.args.month _ c.month_length-length.ensures (omega (arith, c.if-week-length.false))
