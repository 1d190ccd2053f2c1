-- `tzrule::time::earlier_at` meets its contract.
use Rattle.numbers.proofs.Prelude.{refl, arith}
use Rattle.tzrule.proofs.{Steps.{found, got, lost, fails, none_ok}}
use Rattle.tzrule.specs.{Answer.{onward}, Grammar.{earlier_of}}
use Rattle.tzrule.proofs.time.earlier_at.Goals as goal

pub returns-in_err-time : goal.returns-in_err-time
unfolding earlier_of onward
returns-in_err-time c =
    let e = lost _ _ c.in_err-time.ensures.0 refl refl in (fails _ _ _ c.from_residual.ensures.1 (simp e.0, e.1), none_ok _ _ _ c.from_residual.ensures.1)

pub returns : goal.returns
unfolding earlier_of onward
returns c =
    let time = got _ _ _ c.in_ok-time.ensures.0 refl refl in
    (found _ _ _ time.0 (simp time.1), record { from = omega (arith, c.in_ok-time.ensures.1, c.requires.1); to = omega (arith, c.in_ok-time.ensures.1) })
