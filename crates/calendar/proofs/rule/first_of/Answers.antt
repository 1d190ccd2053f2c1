-- `calendar::rule::first_of` meets its contract.
use Rattle.numbers.proofs.Prelude.{arith}
use Rattle.calendar.proofs.{Sums.{first_sum, first_few}}
use Rattle.calendar.proofs.rule.first_of.Goals as goal

pub overflow_add-result : goal.overflow_add-result
overflow_add-result c =
    omega (
      arith,
      first_sum _ c.is_leap-leap.ensures c.args.month c.days_of_years-days.ensures c.days_of_months.ensures,
      first_few c.args.past c.args.month
          c.requires.0 c.requires.2,
    )

pub returns : goal.returns
returns c =
    first_sum _ c.is_leap-leap.ensures _ c.days_of_years-days.ensures c.days_of_months.ensures
