-- `builder::grouping::keys::sort_keys` meets its contract.
use Rattle.builder.proofs.grouping.{Keyed.{sorting_is}}
use Rattle.builder.proofs.grouping.keys.sort_keys.Goals as goal

pub returns : goal.returns
returns c =
    sorting_is _ _ _ _ _ _ _ _ _ c.put_keys.ensures c.requires.2 c.sort.ensures
