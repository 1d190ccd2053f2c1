-- `calendar::rule::day_of` meets its contract.
use Rattle.numbers.proofs.Prelude.{arith}
use Rattle.calendar.proofs.{Sums.{days_few, leap_few, julian_is, zero_is, month_is, julian_sum, zero_sum, month_day_sum}}
use Rattle.calendar.proofs.rule.day_of.Goals as goal

pub overflow_sub-result : goal.overflow_sub-result
overflow_sub-result c =
    (julian_is _ c.in-Julian.is c.requires.1).0

pub overflow_add-result : goal.overflow_add-result
overflow_add-result c =
    omega (arith, julian_is _ c.in-Julian.is c.requires.1, c.days_of_years.ensures, days_few c.args.past c.requires.0)

pub overflow_add-result-in-Julian : goal.overflow_add-result-in-Julian
overflow_add-result-in-Julian c =
    omega (
      arith,
      julian_is _ c.in-Julian.is c.requires.1,
      c.days_of_years.ensures,
      days_few c.args.past c.requires.0,
      c.leap_day.ensures,
      leap_few c.args.past
          c.in-Julian.n,
    )

pub overflow_add-result-in-Zero : goal.overflow_add-result-in-Zero
overflow_add-result-in-Zero c =
    omega (arith, zero_is _ c.in-Zero.is c.requires.1, c.days_of_years-in-Zero.ensures, days_few c.args.past c.requires.0)

pub month_day-requires : goal.month_day-requires
month_day-requires c =
    (c.requires.0, month_is _ _ _ c.in-Month.is c.requires.1)

pub returns-in-Julian : goal.returns-in-Julian
returns-in-Julian c =
    julian_sum _ _ c.in-Julian.is c.days_of_years.ensures c.leap_day.ensures

pub returns-in-Zero : goal.returns-in-Zero
returns-in-Zero c =
    zero_sum _ _ c.in-Zero.is c.days_of_years-in-Zero.ensures
