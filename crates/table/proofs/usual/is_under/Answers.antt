-- `table::usual::is_under` meets its contract: highest latitudes below the location are enough.
use Rattle.numbers.proofs.{Prelude.{sym, ◌∙◌}, Tests.{differ}}
use Rattle.table.proofs.usual.{Usual.{seen_under}}
use Rattle.table.proofs.usual.is_under.Goals as goal

pub returns-then-not-are_long : goal.returns-then-not-are_long
returns-then-not-are_long c =
    λ t. differ t

pub returns-then-lat_below : goal.returns-then-lat_below
returns-then-lat_below c =
    λ t. differ t

pub returns : goal.returns
returns c =
    let four = c.are_long.ensures c.if-not-are_long.false in
    let south = sym c.lat_below.ensures ∙ c.if-lat_below.false in
    λ t. seen_under c.args.place c.args.fix four _ _ c.highest.ensures south c.highest-2.ensures (sym c.lat_below-2.ensures ∙ t)
