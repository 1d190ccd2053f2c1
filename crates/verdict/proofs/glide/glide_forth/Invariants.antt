-- `verdict::glide::glide_forth` meets its contract. The loop's invariant is the contract itself, of points that are held wide; the measure is the rest of the file.
use Rattle.numbers.proofs.Prelude.{◌-◌, length}
use Rattle.verdict.specs.{inner.Gliding.{pointed, Narrow, GlidesForth}}
use Rattle.verdict.proofs.glide.glide_forth.Given as goal

abbrev pub invariant-loop-place : goal.invariant-loop-place
invariant-loop-place l = GlidesForth l.file l.strict l.field l.start (pointed l.initial.point) l.place (pointed l.point) × Narrow l.point

abbrev pub decreases-loop-place : goal.decreases-loop-place
decreases-loop-place l = length l.file - l.place
