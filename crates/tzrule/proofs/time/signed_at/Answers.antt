-- `tzrule::time::signed_at` meets its contract.
use Rattle.numbers.proofs.Prelude.{refl}
use Rattle.tzrule.proofs.{Steps.{ate, left, stands, ends}}
use Rattle.tzrule.specs.{Grammar.{signed_of}}
use Rattle.tzrule.proofs.time.signed_at.Goals as goal

pub returns-in-Some : goal.returns-in-Some
unfolding signed_of
returns-in-Some c =
    let minus = ate _ _ c.in-Some.ensures in (ends _ _ _ c.earlier_at.ensures.0 minus.text minus.at _ refl _ (simp (stands _ _ minus)), c.earlier_at.ensures.1)

pub returns-in-Some-eat : goal.returns-in-Some-eat
unfolding signed_of
returns-in-Some-eat c =
    let plus = ate _ _ c.in-Some-eat.ensures in (ends _ _ _ c.later_at.ensures.0 plus.text plus.at _ refl _ (simp (left _ _ c.in_default.ensures, stands _ _ plus)), c.later_at.ensures.1)

pub returns : goal.returns
unfolding signed_of
returns c =
    (ends _ _ _ c.later_at-2.ensures.0 refl refl _ refl _ (simp (left _ _ c.in_default.ensures, left _ _ c.in_default-eat.ensures)), c.later_at-2.ensures.1)
