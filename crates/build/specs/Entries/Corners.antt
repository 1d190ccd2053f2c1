-- The boxes of the yards, as they are kept: four numbers each; and the yards in the order of the table.
use Rattle.std.specs.Prelude.{◌*◌, ◌≤◌, ◌∷◌, ◌≡◌}
use Rattle.numbers.specs.{Lists.{zeros}, Prelude.{ℕ, ℤ, length, sets, List, [], map}}
use Rattle.builder.specs.{Entries.{box_of, word_of_yard}, Grouping.Keys.{numbers_from}, Yards.{Yard}}
use Rattle.layout.specs.Order.{key_of, sorted_by}

unfoldable pub corners_of : List Yard → List ℤ
corners_of [] = []
corners_of (y ∷ ys) = (box_of y.lats y.lons).south ∷ (box_of y.lats y.lons).west ∷ (box_of y.lats y.lons).north ∷ (box_of y.lats y.lons).east ∷ corners_of ys

-- the boxes of no more than 4,096 yards stand at the front of a list, the yards' words in another, in order; the list to sort in is zero
pub record InOrder (yards : List Yard) (boxes boxes' : List ℤ) (keys spare spare' : List ℕ) : Type 0 where
  pub few : length yards ≤ 4096
  pub room : 4 * length yards ≤ length boxes
  pub corners : boxes' ≡ sets boxes 0 (corners_of yards)
  pub order : keys ≡ sorted_by key_of (map (word_of_yard boxes') (numbers_from 0 (length yards)))
  pub rest : spare' ≡ zeros (length spare)
