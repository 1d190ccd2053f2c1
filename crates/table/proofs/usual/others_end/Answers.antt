-- `table::usual::others_end` meets its contract: each answer is that of one number.
use Rattle.numbers.proofs.{Prelude.{sym, ◌∙◌}, Tests.{differ}}
use Rattle.table.proofs.usual.others_end.Goals as goal

pub returns-then-north : goal.returns-then-north
returns-then-north c =
    let west = c.ends-west.ensures c.if-west.true in
    λ t. record { west = west; north = c.ends-north.ensures c.if-north.true; east = c.ends-east.ensures t }

pub returns-else-north : goal.returns-else-north
returns-else-north c =
    λ t. differ (sym c.if-north.false ∙ t)

pub returns-else-west : goal.returns-else-west
returns-else-west c =
    λ t. differ (sym c.if-west.false ∙ t)
