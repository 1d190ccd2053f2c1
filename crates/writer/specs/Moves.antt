-- How a border's moves are written: document 01, "Moves as in the reader, shortest varints, odd only for negatives".
use Rattle.std.specs.Prelude.{◌-ℤ◌, ◌&&◌, ◌∷◌, ◌++◌}
use Rattle.numbers.specs.{Prelude.{ℕ, eqb, ℤ, pos, neg_ℤ, Bool, not, List, zip_with}, Spelling.{varint_of, signed_form, interleaved}, declared.point.RawPoint.{RawPoint}}
use Rattle.border.specs.{Place.{point_at, move_by, is_still}, declared.place.Point.{Point}}

-- a move in version 0, two numbers
unfoldable pub plain_move_bytes : RawPoint → List ℕ
plain_move_bytes by = varint_of (signed_form by.lat) ++ varint_of (signed_form by.lon)

-- a move in version 1, one number
unfoldable pub packed_number : RawPoint → ℕ
packed_number by = interleaved 32 (signed_form by.lat) (signed_form by.lon)

unfoldable pub packed_move_bytes : RawPoint → List ℕ
packed_move_bytes by = varint_of (packed_number by)

-- ---- the moves of a border
unfoldable pub move_to : Point → Point → RawPoint
move_to p q = move_by (q.lat.0 -ℤ p.lat.0) (q.lon.0 -ℤ p.lon.0)

-- from a point through the points
unfoldable pub moves_from : Point → List Point → List RawPoint
moves_from p qs = zip_with move_to (p ∷ qs) qs

-- the points of two lists of coordinates
unfoldable pub points_of : List ℤ → List ℤ → List Point
points_of lats lons = zip_with point_at lats lons

-- the first move is from (0,0)
unfoldable pub moves_of : List ℤ → List ℤ → List RawPoint
moves_of lats lons = moves_from (point_at (pos 0) (pos 0)) (points_of lats lons)

-- the points that it joins differ
abbrev pub is_move : RawPoint → Bool
is_move by = not (is_still by)

abbrev pub turned_back : RawPoint → RawPoint
turned_back by = move_by (neg_ℤ by.lat) (neg_ℤ by.lon)

-- two moves are equal: they have the same signed forms
unfoldable pub same_move : RawPoint → RawPoint → Bool
same_move a b = eqb (signed_form a.lat) (signed_form b.lat) && eqb (signed_form a.lon) (signed_form b.lon)
