-- `tzrule::string::tz_at` meets its contract.
use Rattle.numbers.proofs.Prelude.{refl, ◌∙◌}
use Rattle.tzrule.proofs.{Steps.{ate, left, stands, found, got, lost, ends, fails, none_ok}}
use Rattle.tzrule.specs.{Answer.{onward}, String.{string_of}, inner.String.{IsTz}}
use Rattle.tzrule.proofs.string.tz_at.Goals as goal

pub returns-in_err-standard : goal.returns-in_err-standard
unfolding string_of onward
returns-in_err-standard c =
    let e = lost _ _ c.in_err-standard.ensures.0 refl refl in (fails _ _ _ c.from_residual.ensures.1 (simp e.0, e.1), none_ok _ _ _ c.from_residual.ensures.1)

pub changing_at-requires : goal.changing_at-requires
changing_at-requires c =
    rw (got _ _ _ c.in_ok-standard.ensures.0 refl refl).0 c.in_ok-standard.ensures.1

pub returns-in-Some : goal.returns-in-Some
unfolding string_of onward IsTz
returns-in-Some c =
    let standard = got _ _ _ c.in_ok-standard.ensures.0 refl refl in let close = ate _ _ c.in-Some.ensures in
    (found _ _ _ (close.text ∙ standard.0) (rw close.at (simp (standard.1, rw standard.0 at (stands _ _ close)))), c.in_ok-standard.ensures.1.0)

pub returns-in-None : goal.returns-in-None
unfolding string_of onward
returns-in-None c =
    let standard = got _ _ _ c.in_ok-standard.ensures.0 refl refl in (
      ends _ _ _ c.changing_at.ensures.0 standard.0 refl _ refl _ (simp (standard.1, rw standard.0 at (left _ _ c.in-None.ensures))),
      rw standard.0 at c.changing_at.ensures.1,
    )
