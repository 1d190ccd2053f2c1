-- Boxes so far from a location that no edge in them comes nearer than the least squared distance.
use Rattle.std.specs.Prelude.{if◌then◌else◌, ◌+◌, ◌-◌, ◌*◌, ◌+ℤ◌, ◌&&◌}
use Rattle.numbers.specs.Prelude.{ℕ, ltb, leb, ℤ, pos, negsuc, nat_abs, lt_z, Bool}
use Rattle.border.specs.declared.place.Point.{Point}

-- less than 2 ^ 22 in size, where a whole number and the floats about it are told apart
unfoldable pub small : ℤ → Bool
small z = lt_z (negsuc 4194303) z && lt_z z (pos 4194304)

unfoldable pub is_small : Point → Bool
is_small p = small p.lat.0 && small p.lon.0

-- such a number, counted from 2 ^ 22 below 0
unfoldable pub raised : ℤ → ℕ
raised z = nat_abs (z +ℤ pos 4194304)

-- how many numbers lie between x and those from one to another
unfoldable pub gap_of : ℕ → ℕ → ℕ → ℕ
gap_of low x high = if ltb x low then low - x - 1 else x - high - 1

-- the same of two coordinates
abbrev pub gap_about : ℤ → ℤ → ℤ → ℕ
gap_about low x high = gap_of (raised low) (raised x) (raised high)

-- The box of two corners is so far from the location by its latitudes and longitudes, whose squares count four times.
unfoldable pub is_afar : Point → ℕ → Point → Point → Bool
is_afar fix least low high =
    let lat = gap_about low.lat.0 fix.lat.0 high.lat.0 in
    let lon = gap_about low.lon.0 fix.lon.0 high.lon.0 in
    (is_small fix && (is_small low && is_small high)) && leb least (lat * lat + 4 * (lon * lon))
