-- Boxes whose four bounds have three bytes each. No promise of a public function speaks of it.
use Rattle.std.specs.Prelude.{◌+◌, ◌*◌, ◌%◌, ◌≤◌, ◌<◌, ◌≡◌}
use Rattle.numbers.specs.Prelude.{ℕ, get_or, true, false, List}
use Rattle.border.specs.declared.place.Point.{Point}
use Rattle.table.specs.{Table.{bounds_of, is_above, holds}, declared.table.Bounds.{Bounds}}

-- two bytes with more to follow
pub record GoesOn (file : List ℕ) (place : ℕ) : Type 0 where
  pub low : 128 ≤ get_or file place 0
  pub middle : 128 ≤ get_or file (place + 1) 0

-- behind two bytes a last one
pub record Ends (file : List ℕ) (place : ℕ) : Type 0 where
  pub high : get_or file (place + 2) 0 < 128

-- so of the second, third and fourth number
pub record Others (P : ℕ → Type 0) (place : ℕ) : Type 0 where
  pub west : P (place + 3)
  pub north : P (place + 6)
  pub east : P (place + 9)

-- four numbers of three bytes each
pub record FourLong (file : List ℕ) (place : ℕ) : Type 0 where
  pub south_on : GoesOn file place
  pub south_ends : Ends file place
  pub on : Others (GoesOn file) place
  pub end : Others (Ends file) place

-- a number of three bytes
abbrev pub long_at : List ℕ → ℕ → ℕ
long_at file place = get_or file place 0 % 128 + 128 * (get_or file (place + 1) 0 % 128 + 128 * get_or file (place + 2) 0)

abbrev pub usual_bounds : List ℕ → ℕ → Bounds
usual_bounds file place = bounds_of (long_at file place) (long_at file (place + 3)) (long_at file (place + 6)) (long_at file (place + 9))

-- the box lies below the location
pub record Under (file : List ℕ) (place : ℕ) (fix : Point) : Type 0 where
  pub there : FourLong file place
  pub low : is_above (usual_bounds file place) fix ≡ false
  pub missed : holds (usual_bounds file place) fix ≡ false

-- the box lies above the location
pub record Over (file : List ℕ) (place : ℕ) (fix : Point) : Type 0 where
  pub there : FourLong file place
  pub above : is_above (usual_bounds file place) fix ≡ true
