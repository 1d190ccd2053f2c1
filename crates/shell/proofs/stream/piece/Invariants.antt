-- Up to the place, each request that ended has its line written.
use Rattle.std.proofs.Common.{length, ◌-◌, take}
use Rattle.std.specs.Io.KnownBytes.{Appends}
use Rattle.shell.specs.Written.{lines_of}
use Rattle.shell.proofs.Streams.{Sofar}
use Rattle.shell.proofs.stream.piece.Given as goal

abbrev pub invariant-loop-at : goal.invariant-loop-at
invariant-loop-at g l =
    (s : Sofar l.chunk (take l.fn.used l.fn.line) l.fn.status l.map l.zones l.at l.size l.line l.hits l.text l.out l.worst)
    × Appends (g.W.Write.contents l.fn.writer) (g.W.Write.contents l.writer) (lines_of l.map l.zones s.done)

abbrev pub decreases-loop-at : goal.decreases-loop-at
decreases-loop-at g l = length l.chunk - l.at
