-- `tzrule::string::hours_at` meets its contract.
use Rattle.numbers.proofs.Prelude.{refl, arith}
use Rattle.tzrule.proofs.{Steps.{ends, more_ok}}
use Rattle.tzrule.specs.{String.{hours_of}}
use Rattle.tzrule.proofs.string.hours_at.Goals as goal

pub returns-then-wide : goal.returns-then-wide
unfolding hours_of
returns-then-wide c =
    (ends _ _ _ c.signed_at.ensures.0 refl refl _ refl _ (simp c.if-wide.true), more_ok _ _ c.signed_at.result (λ a h. omega (arith, h.to)) c.signed_at.ensures.1)

pub returns : goal.returns
unfolding hours_of
returns c =
    (ends _ _ _ c.later_at.ensures.0 refl refl _ refl _ (simp c.if-wide.false), more_ok _ _ c.later_at.result (λ a h. omega (arith, h.to)) c.later_at.ensures.1)
