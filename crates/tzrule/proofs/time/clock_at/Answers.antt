-- `tzrule::time::clock_at` meets its contract.
use Rattle.numbers.proofs.Prelude.{refl, arith}
use Rattle.tzrule.proofs.{Steps.{got, lost, ends, fails, none_ok, more_ok}}
use Rattle.tzrule.specs.{Answer.{onward}, Grammar.{clock_of}}
use Rattle.tzrule.proofs.time.clock_at.Goals as goal

pub returns-in_err-hour : goal.returns-in_err-hour
unfolding clock_of onward
returns-in_err-hour c =
    let e = lost _ _ c.in_err-hour.ensures.0 refl refl in (fails _ _ _ c.from_residual.ensures.1 (simp e.0, e.1), none_ok _ _ _ c.from_residual.ensures.1)

pub returns : goal.returns
unfolding clock_of onward
returns c =
    let hour = got _ _ _ c.in_ok-hour.ensures.0 refl refl in
    (ends _ _ _ c.minutes_at.ensures.0 hour.0 refl _ refl _ (simp hour.1), more_ok _ _ c.minutes_at.result (λ a h. omega (arith, h, c.in_ok-hour.ensures.1)) c.minutes_at.ensures.1)
