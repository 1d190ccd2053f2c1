-- `table::table::bounded_at` meets its contract, by what `read_number` promises: `reading_of` stays shut.
use Rattle.numbers.proofs.{Laws.{exits, goes_on}, Prelude.{ap, ◌∙◌}}
use Rattle.numbers.specs.Answer.{found}
use Rattle.table.specs.{Table.{bounded_by}, declared.table.Bounds.{Bounds}}
use Rattle.table.proofs.table.bounded_at.Goals as goal

pub returns-in_err-min_lat : goal.returns-in_err-min_lat
unfolding bounded_by
returns-in_err-min_lat c =
    exits c.from_residual.result c.in_err-min_lat.was c.read_number.ensures c.from_residual.ensures.1 _

pub returns-in_err-min_lon : goal.returns-in_err-min_lon
unfolding bounded_by
returns-in_err-min_lon c =
    exits c.from_residual-in_err-min_lon.result c.in_err-min_lon.was c.read_number-2.ensures c.from_residual-in_err-min_lon.ensures.1 _
    ∙ goes_on c.read_number.result c.read_number.ensures c.in_ok-min_lat.was _

pub returns-in_err-max_lat : goal.returns-in_err-max_lat
unfolding bounded_by
returns-in_err-max_lat c =
    exits c.from_residual-in_err-max_lat.result c.in_err-max_lat.was c.read_number-3.ensures c.from_residual-in_err-max_lat.ensures.1 _
    ∙ goes_on c.read_number-2.result c.read_number-2.ensures c.in_ok-min_lon.was _
    ∙ goes_on c.read_number.result c.read_number.ensures c.in_ok-min_lat.was _

pub returns-in_err-max_lon : goal.returns-in_err-max_lon
unfolding bounded_by
returns-in_err-max_lon c =
    exits c.from_residual-in_err-max_lon.result c.in_err-max_lon.was c.read_number-4.ensures c.from_residual-in_err-max_lon.ensures.1 _
    ∙ goes_on c.read_number-3.result c.read_number-3.ensures c.in_ok-max_lat.was _
    ∙ goes_on c.read_number-2.result c.read_number-2.ensures c.in_ok-min_lon.was _
    ∙ goes_on c.read_number.result c.read_number.ensures c.in_ok-min_lat.was _

pub returns : goal.returns
unfolding bounded_by
returns c =
    ap (λ (b : Bounds). found (record { bounds = b; next = c.in_ok-max_lon.max_lon.place })) c.bounds_of-bounds.ensures
    ∙ goes_on c.read_number-4.result c.read_number-4.ensures c.in_ok-max_lon.was _
    ∙ goes_on c.read_number-3.result c.read_number-3.ensures c.in_ok-max_lat.was _
    ∙ goes_on c.read_number-2.result c.read_number-2.ensures c.in_ok-min_lon.was _
    ∙ goes_on c.read_number.result c.read_number.ensures c.in_ok-min_lat.was _
