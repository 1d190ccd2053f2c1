-- A stretch of a border, for what is judged by its box or over so many edges.
use Rattle.std.specs.Prelude.{◌+◌, ◌-◌, ◌%◌, ◌≡◌}
use Rattle.numbers.specs.Prelude.{ℕ, zero, suc, Bool, true}
use Rattle.border.specs.{Box.{Box, holds}, Trace.{Trace, point, closed, failed, refused}, declared.place.Point.{Point}}
use Rattle.verdict.specs.{Edge.{quadrant_of}, Step.{Step, found, ◌>>=◌}, Verdict.{Last, after, passing}, Winding.{quarter_by}, declared.step.Tally.{Tally}}

-- a trace after a point comes to what is left of it after a later point, and the box holds all points on the way
pub data Stretch (box : Box) : Point → Trace → Point → Trace → Type 0 where
  stays : {p : Point} {trace : Trace} → Stretch box p trace p trace
  leads : {from to last : Point} {trace rest : Trace} → holds box to ≡ true → Stretch box to trace last rest → Stretch box from (point to trace) last rest

-- over the first so many points of a trace, or as many as it has
unfoldable pub passing_first : Point → Bool → ℕ → Last → Trace → Tally → Step Tally
passing_first fix asked zero last trace tally = found tally
passing_first fix asked (suc more) last (point to trace) tally = passing fix asked last to tally >>= passing_first fix asked more (after to) trace
passing_first fix asked (suc more) last closed tally = found tally
passing_first fix asked (suc more) last failed tally = found tally
passing_first fix asked (suc more) last (refused n) tally = found tally

-- the one edge of a stretch that lies to one side of the fix: it leads one quadrant on, one back, or stays
unfoldable pub leapt : Point → Point → Point → Tally → Step Tally
leapt fix from to tally = quarter_by ((quadrant_of fix to + 4 - quadrant_of fix from) % 4) tally
