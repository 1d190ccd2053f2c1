-- `table::table::steps_at` meets its contract, by what `read_number` promises.
use Rattle.numbers.proofs.{Laws.{exits, goes_on}, Prelude.{◌∙◌}}
use Rattle.table.specs.Table.{steps_by}
use Rattle.table.proofs.table.steps_at.Goals as goal

pub returns-in_err-metadata : goal.returns-in_err-metadata
unfolding steps_by
returns-in_err-metadata c =
    exits c.from_residual.result c.in_err-metadata.was c.read_number.ensures c.from_residual.ensures.1 _

pub returns-in_err-polygon : goal.returns-in_err-polygon
unfolding steps_by
returns-in_err-polygon c =
    exits c.from_residual-in_err-polygon.result c.in_err-polygon.was c.read_number-2.ensures c.from_residual-in_err-polygon.ensures.1 _
    ∙ goes_on c.read_number.result c.read_number.ensures c.in_ok-metadata.was _

pub returns : goal.returns
unfolding steps_by
returns c =
    goes_on c.read_number-2.result c.read_number-2.ensures c.in_ok-polygon.was _ ∙ goes_on c.read_number.result c.read_number.ensures c.in_ok-metadata.was _
