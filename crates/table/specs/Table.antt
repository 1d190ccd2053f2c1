-- The box table, as document 01 has it: an entry is six numbers, all read before any is tested.
use Rattle.numbers.specs.{Answer.{Answer, found, ◌>>=◌}, Point.{signed_of}, Prelude.{ℕ, lt_z, Bool}, Varint.{Numeral}}
use Rattle.border.specs.{Box.{Box}, declared.place.Point.{Point}}
use Rattle.table.specs.declared.table.{Bounded.{Bounded}, Bounds.{Bounds}, Entry.{Entry}}
use Rattle.border.specs.Box as B

-- lower latitude, lower longitude, upper latitude, upper longitude, each a signed number
abbrev pub bounds_of : ℕ → ℕ → ℕ → ℕ → Bounds
bounds_of a b c d =
    record {
      min_lat = record { 0 = signed_of a };
      min_lon = record { 0 = signed_of b };
      max_lat = record { 0 = signed_of c };
      max_lon = record { 0 = signed_of d };
    }

-- over the reading of a number at a place
module _ (read : ℕ → Answer Numeral) where
  -- after the bounds: the steps of the metadata id and of the border's place
  unfoldable pub steps_by : ℕ → Bounds → Answer Entry
  steps_by place bounds = do
    metadata ← read place
    polygon ← read metadata.place
    found (record { bounds = bounds; metadata = metadata.value; polygon = polygon.value; next = polygon.place })

  -- the four bounds of the box at a place, and where they end
  unfoldable pub bounded_by : ℕ → Answer Bounded
  bounded_by place = do
    a ← read place
    b ← read a.place
    c ← read b.place
    d ← read c.place
    found (record { bounds = bounds_of a.value b.value c.value d.value; next = d.place })

  unfoldable pub entry_by : ℕ → Answer Entry
  unfolding steps_by
  entry_by place = do
    a ← read place
    b ← read a.place
    c ← read b.place
    d ← read c.place
    steps_by d.place (bounds_of a.value b.value c.value d.value)

-- ---- boxes
-- the lower latitude is above the location
abbrev pub is_above : Bounds → Point → Bool
is_above bounds fix = lt_z fix.lat.0 bounds.min_lat.0

-- the bounds by their corners
abbrev pub box_in : Bounds → Box
box_in bounds = record { low = record { lat = bounds.min_lat; lon = bounds.min_lon }; high = record { lat = bounds.max_lat; lon = bounds.max_lon } }

-- the box holds the location
abbrev pub holds : Bounds → Point → Bool
holds bounds fix = B.holds (box_in bounds) fix
