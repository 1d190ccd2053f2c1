-- `builder::grouping::first::first_from` meets its contract.
use Rattle.numbers.proofs.Prelude.{◌+◌, map}
use Rattle.builder.specs.Grouping.Keys.{alike, item_of}
use Rattle.builder.proofs.grouping.{Finding.{Scanning}}
use Rattle.builder.proofs.grouping.first.first_from.Given as goal

abbrev pub invariant-loop-word : goal.invariant-loop-word
invariant-loop-word l = Scanning (alike l.starts l.texts l.width l.item) l.item (map item_of l.keys) l.run (l.run + l.word-index)
