-- `tzrule::date::month_at` meets its contract: three numbers, one behind the other.
use Rattle.numbers.proofs.Prelude.{refl}
use Rattle.tzrule.proofs.{Steps.{found, got, lost, fails, none_ok}}
use Rattle.calendar.specs.Rules.{IsWhen}
use Rattle.tzrule.specs.{Answer.{onward}, Grammar.{month_from, week_from, weekday_from}}
use Rattle.tzrule.proofs.date.month_at.Goals as goal

pub returns-in_err-month : goal.returns-in_err-month
unfolding month_from onward
returns-in_err-month c =
    let e = lost _ _ c.in_err-month.ensures.0 refl refl in
    (fails _ _ _ c.from_residual.ensures.1 (simp e.0, e.1), none_ok _ _ _ c.from_residual.ensures.1)

pub returns-in_err-week : goal.returns-in_err-week
unfolding month_from week_from onward
returns-in_err-week c =
    let month = got _ _ _ c.in_ok-month.ensures.0 refl refl in let e = lost _ _ c.in_err-week.ensures.0 month.0 refl in
    (fails _ _ _ c.from_residual-in_err-week.ensures.1 (simp (month.1, e.0), e.1), none_ok _ _ _ c.from_residual-in_err-week.ensures.1)

pub returns-in_err-weekday : goal.returns-in_err-weekday
unfolding month_from week_from weekday_from onward
returns-in_err-weekday c =
    let month = got _ _ _ c.in_ok-month.ensures.0 refl refl in let week = got _ _ _ c.in_ok-week.ensures.0 month.0 refl in let e = lost _ _ c.in_err-weekday.ensures.0 week.0 refl in
    (fails _ _ _ c.from_residual-in_err-weekday.ensures.1 (simp (month.1, week.1, e.0), e.1), none_ok _ _ _ c.from_residual-in_err-weekday.ensures.1)

pub returns : goal.returns
unfolding IsWhen month_from week_from weekday_from onward
returns c =
    let month = got _ _ _ c.in_ok-month.ensures.0 refl refl in let week = got _ _ _ c.in_ok-week.ensures.0 month.0 refl in let weekday = got _ _ _ c.in_ok-weekday.ensures.0 week.0 refl in (
      found _ _ _ weekday.0 (simp (month.1, week.1, weekday.1)),
      record {
        month_from = c.in_ok-month.ensures.1.0;
        month_to = c.in_ok-month.ensures.1.1;
        week_from = c.in_ok-week.ensures.1.0;
        week_to = c.in_ok-week.ensures.1.1;
        weekday_to = c.in_ok-weekday.ensures.1.1;
      },
    )
