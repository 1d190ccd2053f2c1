-- What the functions that change the lists of a builder say.
use Rattle.std.specs.Prelude.{◌+◌, ◌-◌, ◌*◌, ◌^◌, ◌≤◌, ◌<◌, ◌∷◌, ◌++◌, ◌≡◌}
use Rattle.numbers.specs.Prelude.{ℕ, ℤ, pos, length, take, replicate, sets, List, []}
use Rattle.builder.specs.Entries.{box_of}
use Rattle.draft.specs.{Held.State.{Lists}, declared.held.state.Held.{Held}}

-- where the lengths of a builder end
abbrev pub lengths_end : Held → ℕ
lengths_end held = held.names + 1 + held.names * held.yards

-- a yard more, with so many lengths and bytes of values and border, has a place in each list
pub record Placed (held : Held) (sizes values border : ℕ) (lists : Lists) : Type 0 where
  pub few_names : held.names ≤ 255
  pub few_yards : held.yards < 4096
  pub few_sizes : sizes ≤ held.names
  pub few_values : values ≤ 2 ^ 16
  pub few_bytes : held.bytes + border ≤ 2 ^ 30
  pub boxes_room : 4 * held.yards + 4 ≤ length lists.boxes
  pub borders_room : held.yards < length lists.borders
  pub lengths_room : lengths_end held + sizes ≤ length lists.lengths
  pub texts_room : held.strings + values ≤ length lists.texts
  pub bytes_room : held.bytes + border ≤ length lists.bytes

-- the four numbers of a border's box
abbrev pub corners_for : List ℤ → List ℤ → List ℤ
corners_for lats lons = (box_of lats lons).south ∷ (box_of lats lons).west ∷ (box_of lats lons).north ∷ (box_of lats lons).east ∷ []

-- a yard's box, its border's place, its lengths, values and border stand behind what a builder holds
pub record Puts (held : Held) (lats lons : List ℤ) (sizes values border : List ℕ) (before after : Lists) : Type 0 where
  pub boxes_are : after.boxes ≡ sets before.boxes (4 * held.yards) (corners_for lats lons)
  pub borders_are : after.borders ≡ sets before.borders held.yards (held.bytes ∷ [])
  pub lengths_are : after.lengths ≡ sets before.lengths (lengths_end held) sizes
  pub texts_are : after.texts ≡ sets before.texts held.strings values
  pub bytes_are : after.bytes ≡ sets before.bytes held.bytes border

-- a list that is cleared from a place on
abbrev pub ended_at : {A : Type 0} → A → ℕ → List A → List A
ended_at none n list = take n list ++ replicate (length list - n) none

-- nothing stands behind what a builder holds
pub record Ended (held : Held) (before after : Lists) : Type 0 where
  pub boxes_are : after.boxes ≡ ended_at (pos 0) (4 * held.yards) before.boxes
  pub borders_are : after.borders ≡ ended_at 0 held.yards before.borders
  pub lengths_are : after.lengths ≡ ended_at 0 (lengths_end held) before.lengths
  pub texts_are : after.texts ≡ ended_at 0 held.strings before.texts
  pub bytes_are : after.bytes ≡ ended_at 0 held.bytes before.bytes
