-- `index_complete`: every row whose box holds a fix is in the list of the fix's tile. Assumes nothing.
use Rattle.numbers.{proofs.{Prelude.{ℕ, ◌+◌, ◌*◌, ◌/◌, ◌%◌, ◌^◌, ◌<◌, lt-ltb, le-leb, ℤ, Bool, true, false, List, ◌∷◌, ◌≡◌, subst, w32, SFits, arith}, Tests.{both}}, specs.Answer.{if◌then◌else◌}}
use Rattle.border.specs.{Box.{between}, declared.place.Point.{Point}}
use Rattle.table.specs.{Table.{holds}, declared.{rows.Row.{Row}, table.Bounds.{Bounds}}}
use Rattle.index.proofs.{Meeting.{lifted_order, in_its_tile}, Sides.{column_few}}
use Rattle.index.specs.{Complete.{RowAt, first, next, Has, here, later, Narrow}, Index.{list_from, list_of}, Tiles.{word_of, lift, span_of, tile_along, tile_of, tile_at, is_met, meets}}
use Rattle.index.specs.declared.tiles.Tile.{Tile}

-- ---- along an axis
module _ (power precision : ℕ) (low z high : ℤ) (a : SFits w32 low) (b : SFits w32 z) (c : SFits w32 high) where
  met_along : between low z high ≡ true → is_met (span_of power precision (tile_along power precision (lift (word_of z)))) (lift (word_of low)) (lift (word_of high)) ≡ true
  met_along h = let x = lift (word_of z) in let small : x < 2 ^ 32 = omega arith in let parts = both _ _ h in let up = lifted_order low z a b parts.0 in
      let down = lifted_order z high b c parts.1 in let tile = in_its_tile power precision x small in
      rw (
        le-leb (lift (word_of low)) (lift (word_of high)) (omega (arith, up, down)),
        lt-ltb (lift (word_of low)) (span_of power precision (tile_along power precision x)).end (omega (arith, up, tile.1)),
        le-leb
            (span_of power precision (tile_along power precision x)).from (lift (word_of high)) (omega (arith, down, tile.0)),
      )

-- ---- row and column of a tile
row_of : (a b : ℕ) → b < 64 → (64 * a + b) / 64 ≡ a
row_of a b h = omega arith

column_of : (a b : ℕ) → b < 64 → (64 * a + b) % 64 ≡ b
column_of a b h = omega arith

module _ (precision : ℕ) (fix : Point) where
  abbrev lat : ℕ
  lat = lift (word_of fix.lat.0)

  abbrev lon : ℕ
  lon = lift (word_of fix.lon.0)

  -- a box that holds the fix meets the fix's tile
  pub holding_meets : (b : Bounds) → Narrow b fix → holds b fix ≡ true
      → meets (tile_at precision (tile_of precision fix)) (word_of b.min_lat.0) (word_of b.min_lon.0) (word_of b.max_lat.0) (word_of b.max_lon.0) ≡ true
  unfolding meets
  holding_meets b f h = let parts = both _ _ h in let few = column_few precision lon in
      let rows = met_along 5 precision b.min_lat.0 fix.lat.0 b.max_lat.0 f.south f.lat f.north parts.0 in
      let columns = met_along 6 precision b.min_lon.0 fix.lon.0 b.max_lon.0 f.west f.lon f.east parts.1 in
      rw (row_of (tile_along 5 precision lat) (tile_along 6 precision lon) few, column_of (tile_along 5 precision lat) (tile_along 6 precision lon) few, rows, columns)

-- ---- in the list
abbrev is_in : Tile → Row → Bool
is_in tile r = meets tile (word_of r.bounds.min_lat.0) (word_of r.bounds.min_lon.0) (word_of r.bounds.max_lat.0) (word_of r.bounds.max_lon.0)

listed : (tile : Tile) {rows : List Row} {k : ℕ} {r : Row} → RowAt rows k r → is_in tile r ≡ true → (j : ℕ) → Has (j + k) (list_from tile j rows)
unfolding list_from
listed tile (first {r = r} {rows = rows}) m j = let e : j ≡ j + 0 = omega arith in rw m (subst (λ (n : ℕ). Has n (j ∷ list_from tile (j + 1) rows)) e here)
listed tile (next {s = s} {rows = rows} {k = k} at) m j = further (listed tile at m (j + 1)) where
  choose : (t : Bool) {n : ℕ} → Has n (list_from tile (j + 1) rows) → Has n (if t then j ∷ list_from tile (j + 1) rows else list_from tile (j + 1) rows)
  choose true h = later h
  choose false h = h

  further : Has (j + 1 + k) (list_from tile (j + 1) rows) → Has (j + (k + 1)) (if is_in tile s then j ∷ list_from tile (j + 1) rows else list_from tile (j + 1) rows)
  further h = let e : j + 1 + k ≡ j + (k + 1) = omega arith in choose (is_in tile s) (subst (λ (n : ℕ). Has n (list_from tile (j + 1) rows)) e h)

-- Every entry whose box holds a fix is in the list of the fix's tile.
pub index_complete : (precision : ℕ) (fix : Point) {rows : List Row} {k : ℕ} {r : Row} → RowAt rows k r → Narrow r.bounds fix → holds r.bounds fix ≡ true
    → Has k (list_of precision rows (tile_of precision fix))
index_complete precision fix {rows} {k} {r} at f h = let e : 0 + k ≡ k = omega arith in
    subst (λ (n : ℕ). Has n (list_of precision rows (tile_of precision fix))) e (listed (tile_at precision (tile_of precision fix)) at (holding_meets precision fix r.bounds f h) 0)
