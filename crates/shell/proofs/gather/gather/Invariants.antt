-- No line has ended up to the place, and what stands of the line is what its bytes make.
use Rattle.std.proofs.Common.{◌-◌, ◌≤◌, length, take, [], ◌≡◌}
use Rattle.shell.specs.{Kept.{most}, Turn.{Took}}
use Rattle.shell.proofs.gather.gather.Given as goal

abbrev pub invariant-loop-at : goal.invariant-loop-at
invariant-loop-at l = (l.fn.from ≤ l.at) × (l.at ≤ length l.chunk) × (l.size ≤ most) × (length l.line ≡ most) × Took l.chunk l.fn.from (take l.fn.used l.fn.line) []
    l.at (take l.size l.line)

abbrev pub decreases-loop-at : goal.decreases-loop-at
decreases-loop-at l = length l.chunk - l.at
