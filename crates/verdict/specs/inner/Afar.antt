-- Fields so far from a location that no edge in them comes nearer than the least distance. No promise of a public function speaks of it.
use Rattle.std.specs.Prelude.{◌+◌, ◌*◌, ◌≤◌, ◌+ℤ◌, ◌-ℤ◌, ◌⊎◌, ◌≡◌}
use Rattle.numbers.specs.Prelude.{ℕ, ℤ, pos, mag, true}
use Rattle.border.specs.{Box.{Box}, declared.place.Point.{Point}}
use Rattle.verdict.specs.{declared.field.{Field.{Field}, Span.{Span}}, inner.Gliding.{nearby, far_from}}

-- the numbers of a span are all more than r away from x, or r is 0
abbrev pub Reaches : ℕ → ℤ → Span → Type 0
Reaches r x span = (r ≡ 0) ⊎ (far_from r x span ≡ true)

-- a field is so far from the fix, by one coordinate or by both. It may lie across the fix's latitude or longitude, and across 0
pub record Afar (fix : Point) (least : ℕ) (field : Field) : Type 0 where
  pub lat_near : nearby field.lat ≡ true
  pub lon_near : nearby field.lon ≡ true
  pub lat_fix : mag fix.lat.0 ≤ 4194304
  pub lon_fix : mag fix.lon.0 ≤ 4194304
  pub lat_reach : ℕ
  pub lon_reach : ℕ
  pub lat_far : Reaches lat_reach fix.lat.0 field.lat
  pub lon_far : Reaches lon_reach fix.lon.0 field.lon
  pub enough : least ≤ lat_reach * lat_reach + 4 * (lon_reach * lon_reach)

-- the numbers from one to another as a span, whose ends do not count; a box as a field
abbrev pub span_of : ℤ → ℤ → Span
span_of low high = record { low = low -ℤ pos 1; high = high +ℤ pos 1 }

abbrev pub field_of : Box → Field
field_of box = record { lat = span_of box.low.lat.0 box.high.lat.0; lon = span_of box.low.lon.0 box.high.lon.0 }
