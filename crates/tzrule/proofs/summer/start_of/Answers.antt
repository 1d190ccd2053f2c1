-- `tzrule::summer::start_of` meets its contract.
use Rattle.tzrule.specs.Summer.{start_of}
use Rattle.tzrule.proofs.summer.start_of.Goals as goal

pub returns : goal.returns
unfolding start_of
returns c =
    c.change_of.ensures
