-- `verdict::glide::glide_back` meets its contract. The loop's invariant is the contract itself, of points that are held wide; the measure is the place, which falls.
use Rattle.verdict.specs.{inner.Gliding.{pointed, Narrow, GlidesBack}}
use Rattle.verdict.proofs.glide.glide_back.Given as goal

abbrev pub invariant-loop-number : goal.invariant-loop-number
invariant-loop-number l = GlidesBack l.file l.field l.end l.start (pointed l.initial.point) l.place (pointed l.point) × Narrow l.point

abbrev pub decreases-loop-number : goal.decreases-loop-number
decreases-loop-number l = l.place
