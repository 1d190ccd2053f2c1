-- `tzrule::summer::end_of` meets its contract.
use Rattle.tzrule.specs.Summer.{end_of}
use Rattle.tzrule.proofs.summer.end_of.Goals as goal

pub returns : goal.returns
unfolding end_of
returns c =
    c.change_of.ensures
