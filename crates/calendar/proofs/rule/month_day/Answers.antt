-- `calendar::rule::month_day` meets its contract.
use Rattle.numbers.proofs.Prelude.{arith}
use Rattle.calendar.proofs.{Sums.{first_few, weeks_few, month_sum}}
use Rattle.calendar.proofs.rule.month_day.Goals as goal

pub overflow_add-first : goal.overflow_add-first
overflow_add-first c =
    omega (
      arith,
      c.first_of-first.ensures,
      c.weeks_of-weeks.ensures,
      first_few c.args.past c.args.month c.requires.0 c.requires.1.month_to,
      weeks_few c.args.past _
          _ _ c.requires.1,
    )

pub overflow_sub-first : goal.overflow_sub-first
overflow_sub-first c =
    omega (arith, c.weeks_of-weeks.ensures, weeks_few c.args.past _ _ _ c.requires.1)

pub last_on-requires : goal.last_on-requires
last_on-requires c =
    omega (arith, c.weeks_of-weeks.ensures, weeks_few c.args.past _ _ _ c.requires.1, c.requires.1.weekday_to)

pub returns : goal.returns
returns c =
    month_sum _ _ _ _ c.first_of-first.ensures c.weeks_of-weeks.ensures c.last_on.ensures
