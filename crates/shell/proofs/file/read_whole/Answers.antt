use Rattle.std.proofs.Common.{◌-◌, rules, length, subst}
use Rattle.std.proofs.KnownBytes.{Consumes-trans}
use Rattle.std.specs.Io.KnownBytes.{Consumes}
use Rattle.line.proofs.Filled.{filled}
use Rattle.shell.proofs.file.read_whole.Goals as goal

pub loop-done-preserved : goal.loop-done-preserved
loop-done-preserved g c =
    let joined = filled c.loop-done.done (length c.loop-done.room - c.loop-done.done) c.in-Ok.more c.loop-done.room c.read.new.buf c.loop-done.invariant.1
    c.in-Ok.ensures.bound.0 in
    (search rules, search rules, subst (Consumes _ _) joined (Consumes-trans _ _ _ _ _ c.loop-done.invariant.2 c.in-Ok.ensures.bytes.0))
