-- `builder::grouping::keys::put_keys` meets its contract.
use Rattle.builder.specs.Grouping.Keys.{key_word}
use Rattle.builder.proofs.grouping.{Listed.{Listing}}
use Rattle.builder.proofs.grouping.keys.put_keys.Given as goal

abbrev pub invariant-loop-item : goal.invariant-loop-item
invariant-loop-item l = Listing (key_word l.starts l.texts l.width) l.initial.keys l.keys l.item
