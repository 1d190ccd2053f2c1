-- `build::entries::south::put_yard_words` meets its contract.
use Rattle.builder.{proofs.grouping.Listed.{Listing}, specs.Entries.{word_of_yard}}
use Rattle.build.proofs.entries.south.put_yard_words.Given as goal

abbrev pub invariant-loop-yard : goal.invariant-loop-yard
invariant-loop-yard l = Listing (word_of_yard l.boxes) l.initial.keys l.keys l.yard
