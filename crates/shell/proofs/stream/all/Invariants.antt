-- Of what came the requests that ended are answered, and the line holds what is left.
use Rattle.std.proofs.Common.{ℕ, List, [], ◌≡◌, length, take}
use Rattle.std.specs.Io.KnownBytes.{Appends, Consumes}
use Rattle.shell.specs.{Kept.{ended, left}, Stream.{Ready}, Written.{lines_of, worst}}
use Rattle.shell.proofs.stream.all.Given as goal

abbrev pub invariant-loop : goal.invariant-loop
invariant-loop g l =
    (came : List ℕ)
    × Consumes (g.R.Read.remaining l.fn.reader) (g.R.Read.remaining l.reader) came
    × Appends (g.W.Write.contents l.fn.writer) (g.W.Write.contents l.writer) (lines_of l.map l.zones (ended [] came))
    × (take l.used l.line ≡ left [] came)
    × (l.status ≡ worst l.map l.zones (ended [] came))
    × Ready l.line l.hits l.text l.out l.used
    × (length l.chunk ≡ 4096)
