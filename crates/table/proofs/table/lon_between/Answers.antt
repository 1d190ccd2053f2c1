-- `table::table::lon_between` meets its contract, by the tests that led to each answer.
use Rattle.numbers.proofs.Prelude.{sym, ◌∙◌}
use Rattle.table.proofs.table.{Tests.{not_first, the_second}}
use Rattle.table.proofs.table.lon_between.Goals as goal

pub returns-then-lon_upto : goal.returns-then-lon_upto
returns-then-lon_upto c =
    the_second _ _ _ (sym c.lon_upto.ensures ∙ c.if-lon_upto.true) c.lon_upto-then-lon_upto.ensures

pub returns : goal.returns
returns c =
    not_first _ _ (sym c.lon_upto.ensures ∙ c.if-lon_upto.false)
