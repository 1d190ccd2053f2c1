-- `tzif::header::is_fourth` meets its contract.
use Rattle.tzif.specs.Header.{is_fourth}
use Rattle.tzif.proofs.header.is_fourth.Goals as goal

pub returns : goal.returns
unfolding is_fourth
returns c =
    cc
