-- `atlas::same::same_level` meets its contract: what is left to compare comes to what the whole does.
use Rattle.numbers.proofs.Prelude.{◌+◌, ◌-◌, ◌*◌, ◌^◌, ◌<◌, ◌≡◌}
use Rattle.index.specs.inner.Own.{is_at}
use Rattle.marks.specs.Marks.{marks_from}
use Rattle.atlas.proofs.same.same_level.Given as goal

abbrev pub invariant-loop : goal.invariant-loop
invariant-loop l =
    (is_at l.words l.at (marks_from l.edges (l.count - l.counter) l.file l.encoding l.reader) ≡ is_at l.words l.initial.at (marks_from l.edges l.count l.file l.encoding
    l.initial.reader)) × (l.at + 11 * (l.count - l.counter) < 2 ^ 58)
