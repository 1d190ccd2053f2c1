-- `tzrule::name::name_at` meets its contract.
use Rattle.numbers.proofs.Prelude.{refl}
use Rattle.tzrule.proofs.{Steps.{ate, left, stands, ends}}
use Rattle.tzrule.specs.{Names.{name_of}}
use Rattle.tzrule.proofs.name.name_at.Goals as goal

pub returns-in-Some : goal.returns-in-Some
unfolding name_of
returns-in-Some c =
    let bracket = ate _ _ c.in-Some.ensures in
    (ends _ _ _ c.quoted_at.ensures.0 bracket.text bracket.at _ refl _ (simp (stands _ _ bracket)), rw bracket.text at c.quoted_at.ensures.1)

pub returns-in-None : goal.returns-in-None
unfolding name_of
returns-in-None c =
    (ends _ _ _ c.bare_at.ensures.0 refl refl _ refl _ (simp (left _ _ c.in-None.ensures)), c.bare_at.ensures.1)
