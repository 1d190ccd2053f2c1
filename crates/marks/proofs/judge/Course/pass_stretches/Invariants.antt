-- `marks::judge::Course::pass_stretches` meets its contract. The loop's invariant: what is left, passed from where it has come to, is what the whole gives.
use Rattle.numbers.proofs.Prelude.{◌+◌, ◌*◌, ◌≤◌, length, ◌≡◌}
use Rattle.marks.specs.Judging.{stretches_by}
use Rattle.marks.proofs.judge.Course.pass_stretches.Given as goal

abbrev pub invariant-loop-left : goal.invariant-loop-left
invariant-loop-left l =
    (stretches_by l.self.file.now l.self.encoding l.self.fix l.self.asked l.self.words.now l.self.first l.left l.at l.end l.counted ≡ stretches_by l.self.file.now l.self.encoding l.self.fix l.self.asked l.self.words.now l.self.first
    l.initial.left l.initial.at l.end l.initial.counted) × (l.at + 11 * l.left ≤ length l.self.words.now)
