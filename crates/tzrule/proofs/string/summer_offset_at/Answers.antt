-- `tzrule::string::summer_offset_at` meets its contract.
use Rattle.numbers.proofs.Prelude.{refl, arith}
use Rattle.tzrule.proofs.{Steps.{ate, left, stands, found, ends, more_ok}}
use Rattle.tzrule.specs.{String.{summer_of}}
use Rattle.tzrule.proofs.string.summer_offset_at.Goals as goal

pub returns-in-Some : goal.returns-in-Some
unfolding summer_of
returns-in-Some c =
    (found _ _ _ refl (simp (stands _ _ (ate _ _ c.in-Some.ensures))), omega (arith, c.requires))

pub returns-in-None : goal.returns-in-None
unfolding summer_of
returns-in-None c =
    (ends _ _ _ c.signed_at.ensures.0 refl refl _ refl _ (simp (left _ _ c.in-None.ensures)), more_ok _ _ c.signed_at.result (λ a h. omega (arith, h.to)) c.signed_at.ensures.1)
