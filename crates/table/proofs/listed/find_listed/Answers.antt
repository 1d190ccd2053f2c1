-- `table::listed::find_listed` meets its contract: it is the search by the places of the borders.
use Rattle.table.specs.GivenRows.{searched_listed, matched_listed, found_listed}
use Rattle.table.proofs.listed.find_listed.Goals as goal

pub returns : goal.returns
unfolding found_listed matched_listed searched_listed
returns c =
    c.find_by.ensures
