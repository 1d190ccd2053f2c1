-- `tzrule::name::bare_at` meets its contract.
use Rattle.numbers.proofs.Prelude.{refl, sym, arith}
use Rattle.tzrule.proofs.{Letters.{bare_short, bare_read}, Steps.{found}}
use Rattle.tzrule.specs.{inner.Reads.{Reads}}
use Rattle.tzrule.proofs.name.bare_at.Goals as goal

pub returns-then-end-here : goal.returns-then-end-here
unfolding Reads
returns-then-end-here c =
    ((sym (bare_short _ _ c.name_end-end.ensures.0 c.if-end-here.true), c.name_end-end.ensures.1), tt)

pub returns : goal.returns
returns c =
    (found _ _ _ refl (sym (bare_read _ _ c.name_end-end.ensures.0 c.if-end-here.false)), record { ordered = omega arith; inside = c.name_end-end.ensures.1 })
