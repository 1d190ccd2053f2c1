-- A builder without a yard: what clearing gives.
use Rattle.std.specs.Prelude.{◌≡◌}
use Rattle.numbers.specs.{Prelude.{pos, false, []}, Reply.{Reply, given, refused, plain}}
use Rattle.draft.specs.Held.{Builder.{Builder, clear}, Space.{standing}, State.{Answers, Holds, Lists, held_with, rooms_of, works_as}}
use Rattle.draft.specs.declared.held.{room.Rooms.{Rooms}, state.Held.{Held}}

unfoldable pub emptied_of : Held → Held
emptied_of h =
    held_with h h.front (record { table = 0; metadata = 0; bytes = 1; yards = 0; greatest = pos 0 })

-- the builder's own lists, and none to work in
abbrev pub own_rooms : Lists → Rooms
own_rooms own = rooms_of own (works_as [] [] [] [] [] [] [])

-- a builder that calls have made is cleared; where its numbers do not fit its lists, 28, and nothing changes
pub record Clears (builder : Held) (rooms : Rooms) (before after : Lists) (r : Reply Held) : Type 0 where
  pub answers : (b : Builder) → Holds b builder before → Answers (given (clear b)) before after r
  pub broken : standing builder rooms ≡ false → (r ≡ refused (plain 28)) × (after ≡ before)
