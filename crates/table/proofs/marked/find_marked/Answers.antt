-- `table::marked::find_marked` meets its contract: it is the search by the marks of the borders.
use Rattle.table.specs.MarkedRows.{searched_marked, matched_marked, found_marked}
use Rattle.table.proofs.marked.find_marked.Goals as goal

pub returns : goal.returns
unfolding found_marked matched_marked searched_marked
returns c =
    c.find_by.ensures
