-- `builder::grouping::first::twice_from` meets its contract.
use Rattle.numbers.proofs.Prelude.{◌+◌, map}
use Rattle.builder.specs.Grouping.Keys.{alike, item_of}
use Rattle.builder.proofs.grouping.{Twice.{Counting}}
use Rattle.builder.proofs.grouping.first.twice_from.Given as goal

abbrev pub invariant-loop-word : goal.invariant-loop-word
invariant-loop-word l = Counting (alike l.starts l.texts 1) l.item (map item_of l.keys) l.run l.found (l.run + l.word-index)
