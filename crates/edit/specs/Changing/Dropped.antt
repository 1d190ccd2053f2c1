-- What dropping the last yard gives.
use Rattle.std.specs.Prelude.{◌+◌, ◌-◌, ◌*◌, ◌≡◌}
use Rattle.numbers.specs.{Prelude.{ℕ, take, drop, false, List}, Reply.{Reply, refused, plain}}
use Rattle.builder.specs.Yards.{sum_of}
use Rattle.draft.specs.{Held.{Builder.{Builder, drop_last}, Space.{Space, long_enough, standing}, State.{Answers, Holds, Lists}}, declared.held.room.Rooms.{Rooms}}
use Rattle.draft.specs.declared.held.state.Held.{Held}

-- how many bytes the last yard's values have
unfoldable pub last_size : Held → List ℕ → ℕ
last_size h lengths = sum_of (take h.names (drop (h.names + 1 + h.names * (h.yards - 1)) lengths))

-- whether the lists are long enough for the yards that are left
unfoldable pub left_space : Held → Rooms → List ℕ → Space
left_space h r lengths = record { bytes = r.bytes; lists = long_enough r h.names (h.yards - 1) h.front (h.strings - last_size h lengths) }

-- the last yard of a builder that calls have made is dropped; where its numbers do not fit its lists, 29, and nothing changes
pub record Drops (builder : Held) (rooms : Rooms) (before after : Lists) (r : Reply Held) : Type 0 where
  pub answers : (b : Builder) → Holds b builder before → Answers (drop_last b (left_space builder rooms before.lengths)) before after r
  pub broken : standing builder rooms ≡ false → (r ≡ refused (plain 29)) × (after ≡ before)
