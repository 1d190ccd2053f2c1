-- `builder::grouping::first::first_of` meets its contract.
use Rattle.numbers.proofs.Prelude.{arith}
use Rattle.builder.proofs.grouping.{Finding.{first_is}, Keyed.{keys_rise, members}, Walks.{fewer_inside, item_among}}
use Rattle.builder.proofs.grouping.first.first_of.Goals as goal

pub run_of-run-requires : goal.run_of-run-requires
run_of-run-requires c =
    keys_rise _ _ _ _ c.requires.1 c.requires.2

pub first_from-requires : goal.first_from-requires
first_from-requires c =
    (members _ _ _ _ c.requires.1 c.requires.2 c.requires.0, c.requires.3, c.run_of-run.ensures.inside)

pub returns : goal.returns
returns c =
    first_is _ _ _ _ (members _ _ _ _ c.requires.1 c.requires.2 c.requires.0) _ _ _ c.hash_item-key.ensures c.run_of-run.ensures c.requires.1 c.requires.2 _
    c.first_from.ensures
