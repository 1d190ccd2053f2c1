-- `localtime::found::east_of` meets its contract.
use Rattle.localtime.proofs.found.{Ways.{difference_fits, east_fits, east_is}}
use Rattle.localtime.proofs.found.east_of.Goals as goal

pub overflow_sub-east : goal.overflow_sub-east
overflow_sub-east c =
    difference_fits _ c.requires

pub overflow_cast-result : goal.overflow_cast-result
overflow_cast-result c =
    east_fits _ c.requires

pub returns : goal.returns
returns c =
    east_is _ c.requires
