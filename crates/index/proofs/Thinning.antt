-- The rows that a tile's list leaves out do not hold a fix of that tile. Assumes nothing.
use Rattle.numbers.proofs.Prelude.{ℕ, ◌+◌, ◌*◌, ◌/◌, ◌≤◌, ◌<◌, lt-ltb, ltb, length, get_or, get_or-append-add, Bool, true, false, List, ◌∷◌, ◌++◌, ◌≡◌, refl, sym, ap, ◌∙◌, w32, SFits, arith}
use Rattle.numbers.{proofs.Coordinates.{read_back}, specs.{Answer.{if◌then◌else◌}, Point.{read_i32}}}
use Rattle.border.specs.declared.place.Point.{Point}
use Rattle.table.specs.{GivenRows.{row_at, rows_by, rows_listed}, Ordered.{followed_at, Thinned, done, kept, left}, Rows.{row, as_rows}, Table.{holds}, declared.rows.Row.{Row}}
use Rattle.index.proofs.{Complete.{holding_meets}, Numbering.{Fitting, Sound, none, one}, Tabling.{records_length}}
use Rattle.index.specs.{Index.{record_of, records_of, list_from, list_of}, Tiles.{word_of, tile_of, tile_at, meets}, declared.tiles.Tile.{Tile}}

module _ (precision : ℕ) (fix : Point) (flat : SFits w32 fix.lat.0) (flon : SFits w32 fix.lon.0) (records : List ℕ) where
  abbrev tile : Tile
  tile = tile_at precision (tile_of precision fix)

  abbrev is_in : Row → Bool
  is_in r = meets tile (word_of r.bounds.min_lat.0) (word_of r.bounds.min_lon.0) (word_of r.bounds.max_lat.0) (word_of r.bounds.max_lon.0)

  -- a box that does not meet the tile does not hold the fix
  not_met : (r : Row) → Fitting r.bounds → is_in r ≡ false → holds r.bounds fix ≡ false
  not_met r f out = go (holds r.bounds fix) refl where
    go : (test : Bool) → holds r.bounds fix ≡ test → test ≡ false
    go false e = refl
    go true e =
        let met = holding_meets precision fix r.bounds (record { south = f.south; west = f.west; north = f.north; east = f.east; lat = flat; lon = flon }) e in
        sym met ∙ out

  -- the records of these rows stand from a number on, and end with the last
  record Standing (rows : List Row) (k : ℕ) : Type 0 where
    there : (i : ℕ) → i < 7 * length rows → get_or records (7 * k + i) 0 ≡ get_or (records_of rows) i 0
    room : 7 * (k + length rows) ≤ length records

  standing_rest : (r : Row) (rows : List Row) (k : ℕ) → Standing (r ∷ rows) k → Standing rows (k + 1)
  unfolding records_of
  standing_rest r rows k s = record {
    there = λ i l.
        let e : 7 * (k + 1) + i ≡ 7 * k + (7 + i) = omega arith in
        ap (λ (j : ℕ). get_or records j 0) e ∙ s.there (7 + i) (omega (arith, l)) ∙ get_or-append-add (record_of r) (records_of rows) i 0;
    room = omega (arith, s.room);
  }

  -- the record of a row gives it back
  record_row : (r : Row) (rows : List Row) (k : ℕ) → Standing (r ∷ rows) k → r.id ≡ k → Fitting r.bounds → row_at records k ≡ followed_at r 0
  unfolding records_of
  record_row r rows k s number f =
      let word : (i : ℕ) → i < 7 → get_or records (7 * k + i) 0 ≡ get_or (record_of r ++ records_of rows) i 0 = λ i l. s.there i (omega (arith, l)) in
      let place = word 0 (omega arith) in let metadata = word 1 (omega arith) in let polygon = word 2 (omega arith) in
      let south = ap read_i32 (word 3 (omega arith)) ∙ read_back r.bounds.min_lat.0 f.south in
      let west = ap read_i32 (word 4 (omega arith)) ∙ read_back r.bounds.min_lon.0 f.west in
      let north = ap read_i32 (word 5 (omega arith)) ∙ read_back r.bounds.max_lat.0 f.north in
      let east = ap read_i32 (word 6 (omega arith)) ∙ read_back r.bounds.max_lon.0 f.east in
      λ i. record {
        place = place i;
        id = sym number i;
        metadata = metadata i;
        polygon = polygon i;
        bounds = record { min_lat = record { 0 = south i }; min_lon = record { 0 = west i }; max_lat = record { 0 = north i }; max_lon = record { 0 = east i } };
        next = 0;
      }

  thinned_from : (k : ℕ) {rows : List Row} → Sound k rows → Standing rows k → Thinned fix (as_rows rows) (rows_listed records (list_from tile k rows))
  unfolding as_rows rows_by list_from
  thinned_from k none s = done
  thinned_from k (one {r = r} {rows = rows} number f later) s = choose (is_in r) refl (thinned_from (k + 1) later (standing_rest r rows k s)) where
    choose : (test : Bool) → is_in r ≡ test → Thinned fix (as_rows rows) (rows_listed records (list_from tile (k + 1) rows))
        → Thinned fix (row r (as_rows rows)) (rows_listed records (if test then k ∷ list_from tile (k + 1) rows else list_from tile (k + 1) rows))
    choose true e rest = let small : ltb k (length records / 7) ≡ true = lt-ltb k (length records / 7) (omega (arith, s.room)) in
        rw (small, record_row r rows k s number f) (kept 0 rest)
    choose false e rest = left (not_met r f e) rest

-- The rows that a tile's list has of a table that can be indexed: those left out do not hold a fix of the tile.
pub thinned : (precision : ℕ) (fix : Point) → SFits w32 fix.lat.0 → SFits w32 fix.lon.0 → {rows : List Row} → Sound 0 rows
    → Thinned fix (as_rows rows) (rows_listed (records_of rows) (list_of precision rows (tile_of precision fix)))
thinned precision fix flat flon {rows} sound =
    thinned_from precision fix flat flon (records_of rows) 0 sound
    (record { there = λ i l. (let e : 7 * 0 + i ≡ i = omega arith in ap (λ (j : ℕ). get_or (records_of rows) j 0) e); room = omega (arith, records_length rows) })
