-- `atlas::put::put_level` meets its contract. The loop's invariant is `Writing`.
use Rattle.numbers.proofs.Prelude.{◌-◌}
use Rattle.marks.specs.Marks.{marks_from}
use Rattle.atlas.proofs.{Writing.{Writing}}
use Rattle.atlas.proofs.put.put_level.Given as goal

abbrev pub invariant-loop : goal.invariant-loop
invariant-loop l = Writing l.edges l.file l.encoding l.initial.words l.initial.at (marks_from l.edges l.count l.file l.encoding l.initial.reader)
    l.words (l.count - l.counter) l.at l.reader
