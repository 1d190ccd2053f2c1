-- `tzrule::time::minutes_at` meets its contract.
use Rattle.numbers.proofs.Prelude.{refl, arith}
use Rattle.tzrule.proofs.{Steps.{ate, left, stands, found, got, lost, ends, fails, none_ok, more_ok}}
use Rattle.tzrule.specs.{Answer.{onward}, Grammar.{minutes_of}}
use Rattle.tzrule.proofs.time.minutes_at.Goals as goal

pub returns-in_default : goal.returns-in_default
unfolding minutes_of
returns-in_default c =
    (found _ _ _ refl (simp (left _ _ c.in_default.ensures)), omega arith)

pub returns-in_err-minutes : goal.returns-in_err-minutes
unfolding minutes_of onward
returns-in_err-minutes c =
    let colon = ate _ _ c.in-Some.ensures in let e = lost _ _ c.in_err-minutes.ensures.0 colon.text colon.at in
    (fails _ _ _ c.from_residual.ensures.1 (simp (stands _ _ colon, e.0), e.1), none_ok _ _ _ c.from_residual.ensures.1)

pub returns : goal.returns
unfolding minutes_of onward
returns c =
    let colon = ate _ _ c.in-Some.ensures in let minutes = got _ _ _ c.in_ok-minutes.ensures.0 colon.text colon.at in
    (ends _ _ _ c.seconds_at.ensures.0 minutes.0 refl _ refl _ (simp (stands _ _ colon, minutes.1)), more_ok _ _ c.seconds_at.result (λ a h. omega (arith, h, c.in_ok-minutes.ensures.1)) c.seconds_at.ensures.1)
