-- `tzrule::date::date_at` meets its contract.
use Rattle.numbers.proofs.Prelude.{refl}
use Rattle.tzrule.proofs.{Steps.{ate, left, stands, ends}}
use Rattle.tzrule.specs.{Grammar.{date_of}}
use Rattle.tzrule.proofs.date.date_at.Goals as goal

pub returns-in-Some : goal.returns-in-Some
unfolding date_of
returns-in-Some c =
    let j = ate _ _ c.in-Some.ensures in (ends _ _ _ c.julian_at.ensures.0 j.text j.at _ refl _ (simp (stands _ _ j)), c.julian_at.ensures.1)

pub returns-in-Some-eat : goal.returns-in-Some-eat
unfolding date_of
returns-in-Some-eat c =
    let m = ate _ _ c.in-Some-eat.ensures in (ends _ _ _ c.month_at.ensures.0 m.text m.at _ refl _ (simp (left _ _ c.in_default.ensures, stands _ _ m)), c.month_at.ensures.1)

pub returns : goal.returns
unfolding date_of
returns c =
    (ends _ _ _ c.zero_at.ensures.0 refl refl _ refl _ (simp (left _ _ c.in_default.ensures, left _ _ c.in_default-eat.ensures)), c.zero_at.ensures.1)
