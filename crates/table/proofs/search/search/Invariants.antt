-- `table::search::search` meets its contract. The loop's invariant is `Going`: the hits so far stand at the front of words that are zero beyond them.
use Rattle.numbers.{proofs.{Prelude.{◌-◌, ◌/◌, length}}, specs.{Varint.{reading_of}}}
use Rattle.table.proofs.search.{Searching.{Going}}
use Rattle.table.specs.{Hits.{width}, Rows.{rows_from}, Search.{judge_in, searched}}
use Rattle.table.proofs.search.search.Given as goal

abbrev pub invariant-loop-at : goal.invariant-loop-at
invariant-loop-at l =
    Going (judge_in l.file l.head l.fix l.asked) l.fix l.end (length l.initial.hits) (searched l.file l.head l.fix l.asked (length l.initial.hits / width))
    (rows_from (reading_of l.head.strict l.file) l.end l.at) l.hits l.count l.least

abbrev pub decreases-loop-at : goal.decreases-loop-at
decreases-loop-at l = l.end - l.at.place
