-- What the functions that draw the data section say.
use Rattle.std.specs.Prelude.{◌+◌, ◌*◌, ◌≤◌, ◌∷◌, ◌≡◌}
use Rattle.numbers.specs.{Prelude.{ℕ, min, ltb, ℤ, length, take, set, List, []}, Reply.{Reply, given, refused}}
use Rattle.writer.specs.{Pieces.{pieces_of}, Writer.{border_of}}
use Rattle.builder.specs.{Borders.{Drawn, appended}, Yards.{part_of}}

-- so much is lent for a border of so many points
pub record LentFor (points room lent : ℕ) : Type 0 where
  pub is : lent ≡ min (170 * points + 400) room

-- the data with the border of the yard that these lists begin with
abbrev pub yard_appended : ℕ → ℕ → List ℕ → List ℤ → ℕ → List ℤ → ℕ → List ℕ → ℕ → Reply (List ℕ)
yard_appended version room earlier ys tall xs wide ws words =
    appended room earlier (ltb (length ws) words) (length (pieces_of (take words ws))) (border_of version (part_of tall ys) (part_of wide xs) (pieces_of (take words ws)) earlier)

-- numbers at every second place, from this one on
unfoldable pub spread : ℕ → List ℕ → List ℕ → List ℕ
spread i [] list = list
spread i (n ∷ ns) list = spread (i + 2) ns (set list i n)

-- all borders stand at the front of a list, and where each begins at every second place of another
pub record Whole (reply : Reply Drawn) (before places bytes : List ℕ) (size : ℕ) : Type 0 where
  pub drawn : Drawn
  pub is : reply ≡ given drawn
  pub full : size ≤ length bytes
  pub front : drawn.bytes ≡ take size bytes
  pub stored : places ≡ spread 1 drawn.places before

unfoldable pub DrawsAll : Reply Drawn → List ℕ → List ℕ → List ℕ → Reply ℕ → Type 0
DrawsAll reply before places bytes (given size) = Whole reply before places bytes size
DrawsAll reply before places bytes (refused why) = reply ≡ refused why
