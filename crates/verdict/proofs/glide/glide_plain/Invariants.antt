-- `verdict::glide::glide_plain` meets its contract. The loop's invariant is the contract itself, of points that are held wide; the measure is the moves that are left.
use Rattle.verdict.specs.{inner.Gliding.{pointed, Narrow, GlidesPlain}}
use Rattle.verdict.proofs.glide.glide_plain.Given as goal

abbrev pub invariant-loop-moves : goal.invariant-loop-moves
invariant-loop-moves l =
    GlidesPlain l.file l.strict l.field l.start l.count (pointed l.initial.point) l.place l.moves (pointed l.point) × Narrow l.point

abbrev pub decreases-loop-moves : goal.decreases-loop-moves
decreases-loop-moves l = l.moves
