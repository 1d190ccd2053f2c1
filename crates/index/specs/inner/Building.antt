-- What the inner functions of building say of each other.
use Rattle.std.specs.Prelude.{◌+◌, ◌*◌, ◌^◌, ◌<◌, ◌∷◌, ◌≡◌, if◌then◌else◌}
use Rattle.numbers.specs.Prelude.{ℕ, zero, suc, length, get_or, sets, ℤ, Bool, List, [], map}
use Rattle.numbers.specs.{Answer.{Answer, found, failed}, Reply.{Reply, given, refused, plain, demand, ◌>>◌}}
use Rattle.table.specs.declared.rows.Row.{Row}
pub use Rattle.marks.specs.Marks.{low}
use Rattle.index.specs.{Index.{records_at, records_of, joined, starts_from}, Tiles.{meets, tile_at}, Table.{is_next}, declared.tiles.Tile.{Tile}}
use Rattle.numbers.specs.Answer as A

-- the box of a record in the words meets a tile
abbrev pub is_met_in : List ℕ → Tile → ℕ → Bool
is_met_in words tile k =
    meets tile (get_or words (records_at + 7 * k + 3) 0) (get_or words (records_at + 7 * k + 4) 0) (get_or words (records_at + 7 * k + 5) 0) (get_or words (records_at + 7 * k + 6) 0)

-- a tile's list by the records in the words: of so many from a number on
unfoldable pub list_in : List ℕ → Tile → ℕ → ℕ → List ℕ
list_in words tile zero k = []
list_in words tile (suc more) k = if is_met_in words tile k then k ∷ list_in words tile more (k + 1) else list_in words tile more (k + 1)

-- and those of so many tiles
unfoldable pub lists_in : List ℕ → ℕ → ℕ → ℕ → ℕ → List (List ℕ)
lists_in words precision n zero t = []
lists_in words precision n (suc more) t = list_in words (tile_at precision t) n 0 ∷ lists_in words precision n more (t + 1)

-- lists and their places were stored, and the next place is behind all of them
pub record Listed (before : List ℕ) (at : ℕ) (lists : List (List ℕ)) (after : List ℕ) (next : ℕ) : Type 0 where
  pub place_after : next ≡ at + length (joined lists)
  pub stored : after ≡ sets (sets before at (joined lists)) 3 (map low (starts_from at lists))

-- the rows were counted and their records stored
pub record Recorded (before after : List ℕ) (rows : List Row) (n : ℕ) : Type 0 where
  pub counted : n ≡ length rows
  pub few : n < 2 ^ 32
  pub stored : after ≡ sets before records_at (records_of rows)

-- a row that was read may stand behind one with this lower latitude in a table with this end; else 34
unfoldable pub next_of : ℕ → ℤ → Answer Row → Reply Row
next_of end floor (found r) = demand (is_next end floor r) (plain 34) >> given r
next_of end floor failed = refused (plain 34)
next_of end floor (A.refused n) = refused (plain 34)
