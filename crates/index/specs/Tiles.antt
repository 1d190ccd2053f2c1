-- The tiles of the fixed grid, as request Q-11 has them: 32 by latitude, 64 by longitude, and which boxes meet them.
use Rattle.std.specs.Prelude.{if◌then◌else◌, ◌+◌, ◌-◌, ◌*◌, ◌/◌, ◌%◌, ◌^◌, ◌&&◌}
use Rattle.numbers.specs.Prelude.{ℕ, min, eqb, ltb, leb, Bool}
use Rattle.border.specs.declared.place.Point.{Point}
pub use Rattle.marks.specs.Marks.{word_of}
use Rattle.index.specs.declared.tiles.{Span.{Span}, Tile.{Tile}}

-- a coordinate's word counted from the lowest coordinate up: -2 ^ 31 is 0, and order is kept (`lifted_order`)
abbrev pub lift : ℕ → ℕ
lift word = (word + 2 ^ 31) % 2 ^ 32

-- where the i-th of 2 ^ power tiles along an axis begins: the grid begins at -2 ^ (precision - 1), and a side is at least one unit
abbrev pub begins_at : ℕ → ℕ → ℕ → ℕ
begins_at power precision i = 2 ^ 31 - 2 ^ (precision - 1) + i * 2 ^ (precision - power)

-- where it begins and ends; the outermost take everything beyond
unfoldable pub span_of : ℕ → ℕ → ℕ → Span
span_of power precision i = record {
  from = if eqb i 0 then 0 else begins_at power precision i;
  end = if eqb (i + 1) (2 ^ power) then 2 ^ 32 else begins_at power precision (i + 1);
}

-- the tile along an axis of a coordinate counted from the lowest up: the first below the grid, the last beyond it
unfoldable pub tile_along : ℕ → ℕ → ℕ → ℕ
tile_along power precision x = min (2 ^ power - 1) ((x - (2 ^ 31 - 2 ^ (precision - 1))) / 2 ^ (precision - power))

-- the tile of a fix
abbrev pub tile_of : ℕ → Point → ℕ
tile_of precision fix = 64 * tile_along 5 precision (lift (word_of fix.lat.0)) + tile_along 6 precision (lift (word_of fix.lon.0))

-- tile 64 * row + column
abbrev pub tile_at : ℕ → ℕ → Tile
tile_at precision t = record { rows = span_of 5 precision (t / 64); columns = span_of 6 precision (t % 64) }

-- a side of a box has a point in a span; an inverted one has no point
abbrev pub is_met : Span → ℕ → ℕ → Bool
is_met span low high = leb low high && (ltb low span.end && leb span.from high)

-- a box meets a tile, by its words: lower latitude, lower longitude, upper latitude, upper longitude
unfoldable pub meets : Tile → ℕ → ℕ → ℕ → ℕ → Bool
meets tile south west north east = is_met tile.rows (lift south) (lift north) && is_met tile.columns (lift west) (lift east)
