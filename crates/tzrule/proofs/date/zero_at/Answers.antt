-- `tzrule::date::zero_at` meets its contract.
use Rattle.numbers.proofs.Prelude.{refl}
use Rattle.tzrule.proofs.{Steps.{found, got, lost, fails, none_ok}}
use Rattle.calendar.specs.Rules.{IsWhen}
use Rattle.tzrule.specs.{Answer.{onward}, Grammar.{zero_of}}
use Rattle.tzrule.proofs.date.zero_at.Goals as goal

pub returns-in_err-n : goal.returns-in_err-n
unfolding zero_of onward
returns-in_err-n c =
    let e = lost _ _ c.in_err-n.ensures.0 refl refl in (fails _ _ _ c.from_residual.ensures.1 (simp e.0, e.1), none_ok _ _ _ c.from_residual.ensures.1)

pub returns : goal.returns
unfolding IsWhen zero_of onward
returns c =
    let n = got _ _ _ c.in_ok-n.ensures.0 refl refl in (found _ _ _ n.0 (simp n.1), c.in_ok-n.ensures.1.1)
