-- `tzif::check::check_standard` meets its contract.
use Rattle.tzif.specs.Check.{check_standard}
use Rattle.tzif.proofs.check.check_standard.Goals as goal

pub returns : goal.returns
unfolding check_standard
returns c =
    cc
