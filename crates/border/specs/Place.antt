-- Fixed points and the moves between them, as document 01 has them.
use Rattle.std.specs.Prelude.{◌+ℤ◌, ◌&&◌}
use Rattle.numbers.specs.{Answer.{Answer, found, checked, ◌>>=◌}, Prelude.{eqb, ℤ, pos, negsuc, neg_ℤ, Bool, false}, declared.point.RawPoint.{RawPoint}}
use Rattle.border.specs.declared.place.Point.{Point}

-- a point and a move by their numbers
abbrev pub point_at : ℤ → ℤ → Point
point_at lat lon = record { lat = record { 0 = lat }; lon = record { 0 = lon } }

abbrev pub move_by : ℤ → ℤ → RawPoint
move_by lat lon = record { lat = lat; lon = lon }

abbrev pub is_zero : ℤ → Bool
is_zero (pos n) = eqb n 0
is_zero (negsuc n) = false

-- a zero move
unfoldable pub is_still : RawPoint → Bool
is_still by = is_zero by.lat && is_zero by.lon

-- the point that a move leads to
unfoldable pub moved_by : Point → RawPoint → Answer Point
moved_by p by = do
  lat ← checked 31 (p.lat.0 +ℤ by.lat)
  lon ← checked 31 (p.lon.0 +ℤ by.lon)
  found (point_at lat lon)

-- "Backward references .. negate moves"
unfoldable pub negated : RawPoint → Answer RawPoint
negated by = do
  lat ← checked 31 (neg_ℤ by.lat)
  lon ← checked 31 (neg_ℤ by.lon)
  found (move_by lat lon)
