-- `tzrule::string::changing_at` meets its contract.
use Rattle.numbers.proofs.Prelude.{refl, sym, ap, ◌∙◌}
use Rattle.tzrule.proofs.{Steps.{met, missed, stands, found, got, lost, lower, fails, none_ok}}
use Rattle.tzrule.specs.{Answer.{fault, onward}, String.{changing_of}, inner.String.{IsTz}}
use Rattle.tzrule.proofs.string.changing_at.Goals as goal

pub returns-in_err-daylight : goal.returns-in_err-daylight
unfolding changing_of onward
returns-in_err-daylight c =
    let e = lost _ _ c.in_err-daylight.ensures.0 refl refl in (fails _ _ _ c.from_residual.ensures.1 (simp e.0, e.1), none_ok _ _ _ c.from_residual.ensures.1)

pub returns-in_err-start : goal.returns-in_err-start
unfolding changing_of onward
returns-in_err-start c =
    let day = got _ _ _ c.in_ok-daylight.ensures.0 refl refl in let e = lost _ _ c.in_err-start.ensures.0 day.0 refl in
    (fails _ _ _ c.from_residual-in_err-start.ensures.1 (simp (day.1, e.0), e.1), none_ok _ _ _ c.from_residual-in_err-start.ensures.1)

pub returns-in_err-end : goal.returns-in_err-end
unfolding changing_of onward
returns-in_err-end c =
    let day = got _ _ _ c.in_ok-daylight.ensures.0 refl refl in let start = got _ _ _ c.in_ok-start.ensures.0 day.0 refl in let e = lost _ _ c.in_err-end.ensures.0 start.0 refl in
    (fails _ _ _ c.from_residual-in_err-end.ensures.1 (simp (day.1, start.1, e.0), e.1), none_ok _ _ _ c.from_residual-in_err-end.ensures.1)

pub returns-in_err-rest : goal.returns-in_err-rest
unfolding changing_of onward
returns-in_err-rest c =
    let day = got _ _ _ c.in_ok-daylight.ensures.0 refl refl in let start = got _ _ _ c.in_ok-start.ensures.0 day.0 refl in let end = got _ _ _ c.in_ok-end.ensures.0 start.0 refl in let e = missed _ _ c.in_err-rest.ensures in (
      fails _ _ _ c.from_residual-in_err-rest.ensures.1 (simp (day.1, start.1, end.1, rw end.0 at e.0) (ap fault (sym e.1)), rw end.0 at (lower e.1 c.in_ok-end.rest.inside)),
      none_ok _ _ _ c.from_residual-in_err-rest.ensures.1,
    )

pub returns : goal.returns
unfolding changing_of onward IsTz
returns c =
    let day = got _ _ _ c.in_ok-daylight.ensures.0 refl refl in let start = got _ _ _ c.in_ok-start.ensures.0 day.0 refl in let end = got _ _ _ c.in_ok-end.ensures.0 start.0 refl in let close = met _ _ c.in_ok-rest.ensures in (
      found _ _ _ (close.text ∙ end.0) (rw close.at (simp (day.1, start.1, end.1, rw end.0 at (stands _ _ close)))),
      record {
        standard = c.requires.0;
        daylight = c.in_ok-daylight.ensures.1;
        good = record {
          standard = c.requires.0.west;
          daylight = c.in_ok-daylight.ensures.1.west;
          start = c.in_ok-start.ensures.1;
          end = c.in_ok-end.ensures.1;
        };
      },
    )
