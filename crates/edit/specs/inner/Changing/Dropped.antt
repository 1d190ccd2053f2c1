-- What the functions that drop a yard say of each other.
use Rattle.std.specs.Prelude.{◌+◌, ◌-◌, ◌*◌, ◌≤◌, ◌<◌, ◌≡◌}
use Rattle.numbers.specs.{Prelude.{ℕ, ℤ, length, get_or, true, false, List}, Reply.{Reply, given, plain, refused}}
use Rattle.draft.specs.{Held.{Builder.{Builder, drop_last}, Space.{long_enough, standing}, State.{Holds, Lists, held_with}}, declared.held.{room.Rooms.{Rooms}, state.Held.{Held}}}
use Rattle.edit.specs.{Changing.Dropped.{last_size, left_space}, declared.changing.cut.Ends.{Ends}}

-- the numbers with a yard less, and the sums as they were
unfoldable pub short_of : Held → ℕ → ℕ → Held
short_of h strings bytes =
    held_with h strings (record { table = h.table; metadata = h.metadata; bytes = bytes; yards = h.yards - 1; greatest = h.greatest })

-- the same numbers with other sums
unfoldable pub with_sums : Held → ℕ → ℕ → ℤ → Held
with_sums h table metadata greatest =
    held_with h h.strings (record { table = table; metadata = metadata; bytes = h.bytes; yards = h.yards; greatest = greatest })

-- how much of each list these numbers need
unfoldable pub ends_of : Held → Ends
ends_of h = record { boxes = 4 * h.yards; borders = h.yards; lengths = h.names + 1 + h.names * h.yards; texts = h.strings; bytes = h.bytes }

-- a builder's lists have these lengths
pub record Lent (rooms : Rooms) (lists : Lists) : Type 0 where
  pub boxes : rooms.boxes ≡ length lists.boxes
  pub borders : rooms.borders ≡ length lists.borders
  pub lengths : rooms.lengths ≡ length lists.lengths
  pub texts : rooms.texts ≡ length lists.texts
  pub bytes : rooms.bytes ≡ length lists.bytes

-- there is a yard, and room for what is left
pub record Shortened (builder : Held) (rooms : Rooms) (borders lengths : List ℕ) (held : Held) : Type 0 where
  pub stands : standing builder rooms ≡ true
  pub some : 0 < builder.yards
  pub last_in : last_size builder lengths ≤ builder.strings - builder.front
  pub bytes_in : get_or borders (builder.yards - 1) 0 ≤ builder.bytes
  pub room : long_enough rooms builder.names (builder.yards - 1) builder.front (builder.strings - last_size builder lengths) ≡ true
  pub is : held ≡ short_of builder (builder.strings - last_size builder lengths) (get_or borders (builder.yards - 1) 0)

unfoldable pub Shortens : Held → Rooms → List ℕ → List ℕ → Reply Held → Type 0
Shortens builder rooms borders lengths (given held) = Shortened builder rooms borders lengths held
Shortens builder rooms borders lengths (refused why) =
    (standing builder rooms ≡ false → why ≡ plain 29)
    × ((b : Builder) (before : Lists) → before.borders ≡ borders → before.lengths ≡ lengths → Lent rooms before → Holds b builder before
    → drop_last b (left_space builder rooms lengths) ≡ refused why)
