-- `tzif::times::occurrences_of` meets its contract.
use Rattle.tzif.proofs.times.occurrences_of.Goals as goal

pub returns : goal.returns
returns c =
    cc
