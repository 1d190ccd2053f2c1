-- `table::listed::search_records` meets its contract. The loop's invariant is `SoFar`, over the rows of the numbers that are left.
use Rattle.numbers.proofs.Prelude.{◌/◌, length}
use Rattle.table.proofs.{listed.Given.{onward_from}, search.SoFar.{SoFar}}
use Rattle.table.specs.{GivenRows.{row_with, searched_by}, Hits.{width}}
use Rattle.table.proofs.listed.search_records.Given as goal

abbrev pub invariant-loop-number : goal.invariant-loop-number
invariant-loop-number g l =
    let J = g.J.Judging in
    SoFar (length l.initial.hits) (searched_by J.border (J.judged_by l.judging l.fix l.records) l.fix l.records l.numbers (length l.initial.hits
    / width)) (onward_from (row_with J.border) (J.judged_by l.judging l.fix l.records) l.fix l.records l.numbers (length l.initial.hits)
    l.number-index) l.hits l.count l.least
