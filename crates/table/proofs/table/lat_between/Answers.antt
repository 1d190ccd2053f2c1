-- `table::table::lat_between` meets its contract, by the tests that led to each answer.
use Rattle.numbers.proofs.Prelude.{sym, ◌∙◌}
use Rattle.table.proofs.table.{Tests.{not_first, the_second}}
use Rattle.table.proofs.table.lat_between.Goals as goal

pub returns-then-lat_upto : goal.returns-then-lat_upto
returns-then-lat_upto c =
    the_second _ _ _ (sym c.lat_upto.ensures ∙ c.if-lat_upto.true) c.lat_upto-then-lat_upto.ensures

pub returns : goal.returns
returns c =
    not_first _ _ (sym c.lat_upto.ensures ∙ c.if-lat_upto.false)
