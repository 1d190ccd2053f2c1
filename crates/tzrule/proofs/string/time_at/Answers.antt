-- `tzrule::string::time_at` meets its contract.
use Rattle.numbers.proofs.Prelude.{refl, arith}
use Rattle.tzrule.proofs.{Steps.{ate, left, stands, found, ends}}
use Rattle.tzrule.specs.{String.{time_of}}
use Rattle.tzrule.proofs.string.time_at.Goals as goal

pub returns-in-Some : goal.returns-in-Some
unfolding time_of
returns-in-Some c =
    let slash = ate _ _ c.in-Some.ensures in (ends _ _ _ c.hours_at.ensures.0 slash.text slash.at _ refl _ (simp (stands _ _ slash)), c.hours_at.ensures.1)

pub returns-in-None : goal.returns-in-None
unfolding time_of
returns-in-None c =
    (found _ _ _ refl (simp (left _ _ c.in-None.ensures)), omega arith)
