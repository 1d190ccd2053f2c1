-- `table::usual::others_go_on` meets its contract: each answer is that of one number.
use Rattle.numbers.proofs.{Prelude.{sym, ◌∙◌}, Tests.{differ}}
use Rattle.table.proofs.usual.others_go_on.Goals as goal

pub returns-then-north : goal.returns-then-north
returns-then-north c =
    let west = c.goes_on-west.ensures c.if-west.true in
    λ t. record { west = west; north = c.goes_on-north.ensures c.if-north.true; east = c.goes_on-east.ensures t }

pub returns-else-north : goal.returns-else-north
returns-else-north c =
    λ t. differ (sym c.if-north.false ∙ t)

pub returns-else-west : goal.returns-else-west
returns-else-west c =
    λ t. differ (sym c.if-west.false ∙ t)
