-- How often a border winds about a location, in quarter turns.
use Rattle.std.specs.Prelude.{if◌then◌else◌, ◌+◌, ◌-◌, ◌%◌, ◌+ℤ◌, ◌-ℤ◌, ◌&&◌}
use Rattle.numbers.specs.{Float.{to_f32, cut32, ◌⊟◌, ◌⊘◌}, Prelude.{ℕ, eqb, ltb, ℤ, pos, negsuc, lt_z, Bool, true, false}}
use Rattle.verdict.specs.{Edge.{straight, in_box, quadrant_of, edge_of}, Step.{Step, found, meets, ◌>>=◌, checked}, declared.edge.Edge.{Edge}}
use Rattle.verdict.specs.declared.{edge.{Edge.TheVariants.{Sloped, EqualLongitude, EqualLatitude}, Slope.{Slope}}, step.{Tally.{Tally}, Verdict.TheVariants.{OnBorderSegment}}}
use Rattle.border.specs.declared.place.{FixedLon.{FixedLon}, Point.{Point}}

-- the sum is held against the i32's range at each step
unfoldable pub turned : ℤ → Tally → Step Tally
turned by tally = checked 31 (tally.winding +ℤ by) >>= λ w. found (record { winding = w; least = tally.least })

-- one quadrant on, or one back
unfoldable pub quarter_by : ℕ → Tally → Step Tally
quarter_by quarters tally = if eqb quarters 1 then turned (pos 1) tally else (if eqb quarters 3 then turned (negsuc 0) tally else found tally)

-- two quadrants, by the west or by the east: 2 or -2 into the quadrants 2 and 3, and the other way into 0 and 1
unfoldable pub half_turn : Bool → ℕ → ℤ
half_turn west q = if ltb q 2 then (if west then negsuc 1 else pos 2) else (if west then pos 2 else negsuc 1)

-- A crossing at a longitude: within one of the fix it is on the border. The right bound is worked out only if the left one holds.
unfoldable pub turn_at : FixedLon → FixedLon → ℕ → Step ℤ
turn_at crossing fix q = do
  left ← checked 31 (fix.0 -ℤ pos 1)
  if lt_z crossing.0 left
      then found (half_turn true q)
      else (do
        right ← checked 31 (fix.0 +ℤ pos 1)
        if lt_z right crossing.0 then found (half_turn false q) else meets OnBorderSegment)

-- the longitude at which a line has the fix's latitude
unfoldable pub crossing_of : Point → Slope → FixedLon
crossing_of fix line = record { 0 = cut32 ((to_f32 fix.lat.0 ⊟ line.b) ⊘ line.a) }

-- an edge that leads across two quadrants: a straight one has the fix on it
unfoldable pub across_by : Point → Edge → ℕ → Tally → Step Tally
across_by fix (Sloped line) q tally = turn_at (crossing_of fix line) fix.lon q >>= λ turn. turned turn tally
across_by fix (EqualLongitude lon) q tally = meets OnBorderSegment
across_by fix (EqualLatitude lat) q tally = meets OnBorderSegment

-- a straight edge whose box holds the fix has the fix on it
unfoldable pub clear_of : Point → Point → Point → Tally → Step Tally
clear_of fix from to tally = if straight from to && in_box to fix from then meets OnBorderSegment else found tally

-- the winding after an edge, by how many quadrants it leads on, going round
unfoldable pub wound_by : Point → Point → Point → Tally → Step Tally
wound_by fix from to tally =
    let q = quadrant_of fix to in
    let quarters = (q + 4 - quadrant_of fix from) % 4 in
    if eqb quarters 2 then across_by fix (edge_of from to) q tally else (quarter_by quarters tally >>= clear_of fix from to)
