-- `calendar::year::is_leap` meets its contract: its test on full centuries picks the case of `is_leap`.
use Rattle.numbers.proofs.Prelude.{◌%◌, eq-eqb, ne_eqb}
use Rattle.calendar.specs.Calendar.{is_leap}
use Rattle.calendar.proofs.year.is_leap.Goals as goal

pub returns-then-year-eq0 : goal.returns-then-year-eq0
unfolding is_leap
returns-then-year-eq0 c =
    simp (eq-eqb (c.args.year % 100) 0 c.if-year-eq0.true)

pub returns : goal.returns
unfolding is_leap
returns c =
    simp (ne_eqb (c.args.year % 100) 0 c.if-year-eq0.false)
