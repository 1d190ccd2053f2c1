-- `tzrule::string::change_at` meets its contract.
use Rattle.numbers.proofs.Prelude.{refl, sym, ap, arith}
use Rattle.tzrule.proofs.{Steps.{met, missed, stands, found, got, lost, fails, none_ok}}
use Rattle.tzrule.specs.{Answer.{fault, onward}, String.{change_of}}
use Rattle.tzrule.proofs.string.change_at.Goals as goal

pub returns-in_err-rest : goal.returns-in_err-rest
unfolding change_of
returns-in_err-rest c =
    let e = missed _ _ c.in_err-rest.ensures in
    (fails _ _ _ c.from_residual.ensures.1 (simp e.0 (ap fault (sym e.1)), omega (arith, e.1, c.args.here.inside)), none_ok _ _ _ c.from_residual.ensures.1)

pub returns-in_err-when : goal.returns-in_err-when
unfolding change_of onward
returns-in_err-when c =
    let comma = met _ _ c.in_ok-rest.ensures in let e = lost _ _ c.in_err-when.ensures.0 comma.text comma.at in
    (fails _ _ _ c.from_residual-in_err-when.ensures.1 (simp (stands _ _ comma, e.0), e.1), none_ok _ _ _ c.from_residual-in_err-when.ensures.1)

pub returns-in_err-time : goal.returns-in_err-time
unfolding change_of onward
returns-in_err-time c =
    let comma = met _ _ c.in_ok-rest.ensures in let when = got _ _ _ c.in_ok-when.ensures.0 comma.text comma.at in let e = lost _ _ c.in_err-time.ensures.0 when.0 refl in
    (fails _ _ _ c.from_residual-in_err-time.ensures.1 (simp (stands _ _ comma, when.1, e.0), e.1), none_ok _ _ _ c.from_residual-in_err-time.ensures.1)

pub returns : goal.returns
unfolding change_of onward
returns c =
    let comma = met _ _ c.in_ok-rest.ensures in let when = got _ _ _ c.in_ok-when.ensures.0 comma.text comma.at in let time = got _ _ _ c.in_ok-time.ensures.0 when.0 refl in
    (found _ _ _ time.0 (simp (stands _ _ comma, when.1, time.1)), record { when = c.in_ok-when.ensures.1; time = c.in_ok-time.ensures.1 })
