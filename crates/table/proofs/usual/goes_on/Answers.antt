-- `table::usual::goes_on` meets its contract, by the bytes that it looked at.
use Rattle.numbers.proofs.Prelude.{leb-true, arith}
use Rattle.table.proofs.usual.{Usual.{going}}
use Rattle.table.proofs.usual.goes_on.Goals as goal

pub returns-then-low-ge128 : goal.returns-then-low-ge128
returns-then-low-ge128 c =
    λ t. going _ _ c.wide-low.ensures.0 c.if-low-ge128.true c.wide-middle.ensures.0 t

pub returns-else-low-ge128 : goal.returns-else-low-ge128
returns-else-low-ge128 c =
    λ t. absurd (omega (arith, leb-true 128 c.wide-low.result t, c.if-low-ge128.false))
