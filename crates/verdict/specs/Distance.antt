-- The squared distance of a location from an edge. The longitude counts twice: it has half the scale.
use Rattle.numbers.specs.{Float.{cut64, ◌⊟◌}, Prelude.{ℕ, min, ℤ, nat_abs, Bool}}
use Rattle.std.specs.Prelude.{◌*ℤ◌, if◌then◌else◌, ◌+◌, ◌*◌, ◌%◌, ◌^◌, ◌-ℤ◌}
use Rattle.verdict.specs.{Edge.{in_box, spot_of, edge_of, closest_on, cut_of}, Step.{Step, found, ◌>>=◌, checked}}
use Rattle.verdict.specs.declared.{edge.Spot.{Spot}, step.Tally.{Tally}}
use Rattle.border.specs.declared.place.Point.{Point}

-- "squares must fit i64"; their sum wraps
unfoldable pub squared : ℤ → ℤ → Step ℕ
squared lat lon = do
  y ← checked 63 (lat *ℤ lat)
  x ← checked 63 (lon *ℤ lon)
  found ((nat_abs y + 4 * nat_abs x) % 2 ^ 64)

unfoldable pub to_segment : Spot → Spot → Step ℕ
to_segment near at = squared (cut64 (near.lat ⊟ at.lat)) (cut64 (near.lon ⊟ at.lon))

unfoldable pub to_vertex : Point → Point → Step ℕ
to_vertex to fix = do
  lat ← checked 31 (to.lat.0 -ℤ fix.lat.0)
  lon ← checked 31 (to.lon.0 -ℤ fix.lon.0)
  squared lat lon

-- to the closest point, if its cut is in the edge's box; else to the vertex
unfoldable pub distance_of : Point → Point → Point → Step ℕ
distance_of fix from to =
    let at = spot_of fix in
    let near = closest_on (edge_of from to) at in
    if in_box to (cut_of near) from then to_segment near at else to_vertex to fix

-- the least distance after an edge, if it is asked for
unfoldable pub measured : Bool → Point → Point → Point → Tally → Step Tally
measured asked fix from to tally =
    if asked
    then (distance_of fix from to >>= λ new. found (record { winding = tally.winding; least = min new tally.least }))
    else found tally
