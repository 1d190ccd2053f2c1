-- `builder::grouping::first::is_twice` meets its contract.
use Rattle.numbers.proofs.Prelude.{arith}
use Rattle.builder.proofs.grouping.{Keyed.{keys_rise, members, one_hash}, Twice.{twice_is}, Walks.{fewer_inside}}
use Rattle.builder.proofs.grouping.first.is_twice.Goals as goal

pub run_of-run-requires : goal.run_of-run-requires
run_of-run-requires c =
    keys_rise _ _ _ _ c.requires.1 c.requires.2

pub twice_from-requires : goal.twice_from-requires
twice_from-requires c = (
  members _ _ _ _ c.requires.1 c.requires.2 c.requires.0,
  keys_rise _ _ _ _ c.requires.1 c.requires.2,
  c.requires.3,
  c.run_of-run.ensures,
  one_hash _ _ _ _
      c.hash_item-key.ensures,
)

pub returns : goal.returns
returns c =
    twice_is _ _ _ (members _ _ _ _ c.requires.1 c.requires.2 c.requires.0) _ _ _ (one_hash _ _ _ _ c.hash_item-key.ensures) c.run_of-run.ensures c.requires.1
    c.requires.2 _ c.twice_from.ensures
