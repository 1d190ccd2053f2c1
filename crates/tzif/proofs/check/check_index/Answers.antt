-- `tzif::check::check_index` meets its contract.
use Rattle.tzif.specs.Check.{check_index}
use Rattle.tzif.proofs.check.check_index.Goals as goal

pub returns : goal.returns
unfolding check_index
returns c =
    cc
