-- Edges of a border in f32, each operation rounded once, in the Rust's order; boxes; quadrants.
use Rattle.std.specs.Prelude.{if◌then◌else◌, ◌&&◌, ◌||◌}
use Rattle.numbers.specs.{Float.{to_f32, cut32, ◌⊞◌, ◌⊟◌, ◌⊠◌, ◌⊘◌}, Prelude.{ℕ, Float, fin, ℤ, pos, le_z, Bool, false}}
use Rattle.border.specs.{Place.{point_at}, declared.place.Point.{Point}}
use Rattle.verdict.specs.declared.edge.{Edge.{Edge, TheVariants.{Sloped, EqualLongitude, EqualLatitude}}, Slope.{Slope}, Spot.{Spot}}

-- ---- points

abbrev pub same_z : ℤ → ℤ → Bool
same_z a b = le_z a b && le_z b a

unfoldable pub same_point : Point → Point → Bool
same_point p q = same_z p.lat.0 q.lat.0 && same_z p.lon.0 q.lon.0

-- x is one of two numbers, or between them
unfoldable pub between : ℤ → ℤ → ℤ → Bool
between one x other = (le_z one x && le_z x other) || (le_z other x && le_z x one)

-- the box of two opposite corners holds a point
unfoldable pub in_box : Point → Point → Point → Bool
in_box one p other = between one.lat.0 p.lat.0 other.lat.0 && between one.lon.0 p.lon.0 other.lon.0

-- the quadrant about the fix that a point lies in: 0 north-east, 1 north-west, 2 south-west, 3 south-east
unfoldable pub quadrant_of : Point → Point → ℕ
quadrant_of fix p =
    if le_z fix.lat.0 p.lat.0
    then (if le_z fix.lon.0 p.lon.0 then 0 else 1)
    else (if le_z fix.lon.0 p.lon.0 then 3 else 2)

-- ---- edges

abbrev pub spot_of : Point → Spot
spot_of p = record { lat = to_f32 p.lat.0; lon = to_f32 p.lon.0 }

-- latitude = a * longitude + b
unfoldable pub slope_of : Spot → Spot → Slope
slope_of from to =
    let a = (to.lat ⊟ from.lat) ⊘ (to.lon ⊟ from.lon) in
    record { a = a; b = to.lat ⊟ a ⊠ to.lon }

-- "an edge is one of three"; equal points are an edge of equal longitude
unfoldable pub edge_of : Point → Point → Edge
edge_of from to =
    if same_z to.lon.0 from.lon.0
    then EqualLongitude to.lon
    else (if same_z to.lat.0 from.lat.0 then EqualLatitude to.lat else Sloped (slope_of (spot_of from) (spot_of to)))

unfoldable pub straight : Point → Point → Bool
straight from to = same_z to.lon.0 from.lon.0 || same_z to.lat.0 from.lat.0

abbrev one : Float
one = fin false 1 (pos 0)

-- the point of an edge's line that is closest to a location
unfoldable pub closest_on : Edge → Spot → Spot
closest_on (Sloped line) at =
    let a = line.a in
    let b = line.b in
    record {
      lat = (a ⊠ (at.lon ⊞ a ⊠ at.lat) ⊞ b) ⊘ (a ⊠ a ⊞ one);
      lon = (at.lon ⊞ a ⊠ at.lat ⊟ a ⊠ b) ⊘ (a ⊠ a ⊞ one);
    }
closest_on (EqualLongitude lon) at = record { lat = at.lat; lon = to_f32 lon.0 }
closest_on (EqualLatitude lat) at = record { lat = to_f32 lat.0; lon = at.lon }

-- a location cut to a point
abbrev pub cut_of : Spot → Point
cut_of at = point_at (cut32 at.lat) (cut32 at.lon)
