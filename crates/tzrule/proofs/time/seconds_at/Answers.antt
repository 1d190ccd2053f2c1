-- `tzrule::time::seconds_at` meets its contract.
use Rattle.numbers.proofs.Prelude.{refl, arith}
use Rattle.tzrule.proofs.{Steps.{ate, left, stands, found, got, lost, fails, none_ok}}
use Rattle.tzrule.specs.{Answer.{onward}, Grammar.{seconds_of}}
use Rattle.tzrule.proofs.time.seconds_at.Goals as goal

pub returns-in_default : goal.returns-in_default
unfolding seconds_of
returns-in_default c =
    (found _ _ _ refl (simp (left _ _ c.in_default.ensures)), omega arith)

pub returns-in_err-seconds : goal.returns-in_err-seconds
unfolding seconds_of onward
returns-in_err-seconds c =
    let colon = ate _ _ c.in-Some.ensures in let e = lost _ _ c.in_err-seconds.ensures.0 colon.text colon.at in
    (fails _ _ _ c.from_residual.ensures.1 (simp (stands _ _ colon, e.0), e.1), none_ok _ _ _ c.from_residual.ensures.1)

pub returns : goal.returns
unfolding seconds_of onward
returns c =
    let colon = ate _ _ c.in-Some.ensures in let seconds = got _ _ _ c.in_ok-seconds.ensures.0 colon.text colon.at in
    (found _ _ _ seconds.0 (simp (stands _ _ colon, seconds.1)), omega (arith, c.in_ok-seconds.ensures.1))
