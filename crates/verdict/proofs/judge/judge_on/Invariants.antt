-- `verdict::judge::judge_on` meets its contract. The loop's invariant: what is left of the border, from where it has come to, comes to what the whole does; and what
-- is kept of the last point is right. The measure is the points that are to come.
use Rattle.numbers.proofs.Prelude.{◌≡◌}
use Rattle.border.{specs.Trace.{trace_of}}
use Rattle.verdict.proofs.judge.{Walks.{Along}}
use Rattle.verdict.specs.{inner.{Gliding.{points}, Kept.{seen_from, last_of}}}
use Rattle.verdict.proofs.judge.judge_on.Given as goal

abbrev pub invariant-loop-encoding : goal.invariant-loop-encoding
invariant-loop-encoding l =
    Along l.file l.encoding l.fix l.asked l.edges l.initial.reader l.initial.tally l.limited l.reader (last_of l.begun l.last.point) l.tally l.left × (l.last ≡ seen_from l.fix l.asked l.last.point)

abbrev pub decreases-loop-encoding : goal.decreases-loop-encoding
decreases-loop-encoding l = points (trace_of l.file l.encoding l.reader)
