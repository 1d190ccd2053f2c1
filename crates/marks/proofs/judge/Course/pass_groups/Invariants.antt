-- `marks::judge::Course::pass_groups` meets its contract. The loop's invariant: what is left, passed from where it has come to, is what the whole gives.
use Rattle.numbers.proofs.Prelude.{◌+◌, ◌*◌, ◌≤◌, length, ◌≡◌}
use Rattle.marks.specs.Judging.{groups_by}
use Rattle.marks.proofs.judge.Course.pass_groups.Given as goal

abbrev pub invariant-loop-groups : goal.invariant-loop-groups
invariant-loop-groups l =
    (groups_by l.self.file.now l.self.encoding l.self.fix l.self.asked l.self.words.now l.self.first l.groups l.at l.left l.fine l.counted ≡ groups_by l.self.file.now l.self.encoding l.self.fix l.self.asked l.self.words.now l.self.first
    l.initial.groups l.initial.at l.initial.left l.initial.fine l.initial.counted)
    × (l.at + 11 * l.groups ≤ length l.self.words.now) × (l.fine + 11 * l.left ≤ length l.self.words.now)
