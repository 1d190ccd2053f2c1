-- `table::usual::is_over` meets its contract: a lowest latitude above the location is enough.
use Rattle.numbers.proofs.{Prelude.{sym, ◌∙◌}, Tests.{differ}}
use Rattle.table.proofs.usual.{Usual.{seen_over}}
use Rattle.table.proofs.usual.is_over.Goals as goal

pub returns-then-not-are_long : goal.returns-then-not-are_long
returns-then-not-are_long c =
    λ t. differ t

pub returns : goal.returns
returns c =
    λ t. seen_over c.args.place c.args.fix (c.are_long.ensures c.if-not-are_long.false) _ c.lowest.ensures (sym c.lat_below.ensures ∙ t)
