-- `table::table::holds` meets its contract, by the tests that led to each answer.
use Rattle.numbers.proofs.Prelude.{sym, ◌∙◌}
use Rattle.table.proofs.table.{Tests.{not_first, the_second}}
use Rattle.table.proofs.table.holds.Goals as goal

pub returns-then-lat_between : goal.returns-then-lat_between
returns-then-lat_between c =
    the_second _ _ _ (sym c.lat_between.ensures ∙ c.if-lat_between.true) c.lon_between.ensures

pub returns : goal.returns
returns c =
    not_first _ _ (sym c.lat_between.ensures ∙ c.if-lat_between.false)
