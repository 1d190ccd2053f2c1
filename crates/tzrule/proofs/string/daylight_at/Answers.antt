-- `tzrule::string::daylight_at` meets its contract.
use Rattle.numbers.proofs.Prelude.{refl}
use Rattle.tzrule.proofs.{Steps.{found, got, lost, fails, none_ok}}
use Rattle.tzrule.specs.{Answer.{onward}, String.{clock_of}}
use Rattle.tzrule.proofs.string.daylight_at.Goals as goal

pub returns-in_err-name : goal.returns-in_err-name
unfolding clock_of onward
returns-in_err-name c =
    let e = lost _ _ c.in_err-name.ensures.0 refl refl in (fails _ _ _ c.from_residual.ensures.1 (simp e.0, e.1), none_ok _ _ _ c.from_residual.ensures.1)

pub returns-in_err-west : goal.returns-in_err-west
unfolding clock_of onward
returns-in_err-west c =
    let name = got _ _ _ c.in_ok-name.ensures.0 refl refl in let e = lost _ _ c.in_err-west.ensures.0 name.0 refl in
    (fails _ _ _ c.from_residual-in_err-west.ensures.1 (simp (name.1, e.0), e.1), none_ok _ _ _ c.from_residual-in_err-west.ensures.1)

pub returns : goal.returns
unfolding clock_of onward
returns c =
    let name = got _ _ _ c.in_ok-name.ensures.0 refl refl in let west = got _ _ _ c.in_ok-west.ensures.0 name.0 refl in (
      found _ _ _ west.0 (simp (name.1, west.1)),
      record { ordered = c.in_ok-name.ensures.1.ordered; inside = c.in_ok-name.ensures.1.inside; west = c.in_ok-west.ensures.1 },
    )
