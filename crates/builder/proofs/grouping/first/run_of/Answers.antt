-- `builder::grouping::first::run_of` meets its contract.
use Rattle.numbers.proofs.Prelude.{rules, ltb}
use Rattle.std.proofs.lemmas.List.Sorted.{IsPartitionPoint-from_clause}
use Rattle.layout.specs.Order.{key_of}
use Rattle.builder.proofs.grouping.{Finding.{part_keys, part_lower}}
use Rattle.builder.proofs.grouping.first.run_of.Goals as goal

pub returns : goal.returns
returns c =
    part_lower _ _ _ c.partition_point.ensures.bound (IsPartitionPoint-from_clause (λ word. ltb (key_of word) c.args.key) _ _ c.partition_point.ensures.partitioned
    (part_keys _ _ c.requires) (λ a r f' k. search rules))
