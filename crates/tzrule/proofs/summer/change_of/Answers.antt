-- `tzrule::summer::change_of` meets its contract.
use Rattle.numbers.proofs.Prelude.{ℕ, ◌+◌, ◌*◌, ap, arith}
use Rattle.tzrule.proofs.{Guess.{day_few}}
use Rattle.tzrule.specs.Summer.{change_of}
use Rattle.tzrule.proofs.summer.change_of.Goals as goal

pub overflow_mul-result : goal.overflow_mul-result
overflow_mul-result c =
    omega (arith, c.day_of-day.ensures, day_few c.args.change.when c.args.year c.requires.0 c.requires.2.when)

pub overflow_add-result : goal.overflow_add-result
overflow_add-result c =
    omega (arith, c.day_of-day.ensures, day_few c.args.change.when c.args.year c.requires.0 c.requires.2.when, c.requires.2.time)

pub overflow_add-result-2 : goal.overflow_add-result-2
overflow_add-result-2 c =
    omega (arith, c.day_of-day.ensures, day_few c.args.change.when c.args.year c.requires.0 c.requires.2.when, c.requires.2.time, c.requires.1)

pub returns : goal.returns
unfolding change_of
returns c =
    ap (λ (day : ℕ). 86400 * day + c.args.change.time + c.args.west) c.day_of-day.ensures
