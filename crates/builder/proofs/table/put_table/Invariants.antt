-- `builder::table::put_table` meets its contract.
use Rattle.builder.proofs.{Tables.{Tabling}}
use Rattle.builder.proofs.table.put_table.Given as goal

abbrev pub invariant-loop-word : goal.invariant-loop-word
invariant-loop-word l = Tabling l.initial.out l.place l.words l.boxes l.places l.out l.next l.last l.word-index
