-- `border::reader::next_point` meets its contract. The loop's invariant: from here on the next point is the same; the measure is what can still be read.
use Rattle.numbers.{proofs.Prelude.{◌≡◌}}
use Rattle.border.proofs.{Room.{left}}
use Rattle.border.specs.{Trace.{next_point}}
use Rattle.border.proofs.reader.next_point.Given as goal

abbrev pub invariant-loop-later : goal.invariant-loop-later
invariant-loop-later l = next_point l.file l.encoding l.state ≡ next_point l.file l.encoding l.initial.state

abbrev pub decreases-loop-later : goal.decreases-loop-later
decreases-loop-later l = left l.file l.state
