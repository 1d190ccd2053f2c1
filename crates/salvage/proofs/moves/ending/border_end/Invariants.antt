-- `salvage::moves::ending::border_end` meets its contract. The loop's invariant: what is left of the border ends as the whole does; the measure is what can still be read.
use Rattle.numbers.{proofs.Prelude.{◌≡◌}}
use Rattle.border.{proofs.{Room.{left}}, specs.Trace.{trace_of, border_at}}
use Rattle.salvage.specs.Moves.Moves.{end_of}
use Rattle.salvage.proofs.moves.ending.border_end.Given as goal

abbrev pub invariant-loop-later : goal.invariant-loop-later
invariant-loop-later l = end_of (trace_of l.file l.encoding l.reader) ≡ end_of (trace_of l.file l.encoding (border_at l.place))

abbrev pub decreases-loop-later : goal.decreases-loop-later
decreases-loop-later l = left l.file l.reader
