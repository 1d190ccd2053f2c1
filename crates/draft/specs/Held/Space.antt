-- How much room is lent with a builder, and what it is asked for.
use Rattle.std.specs.Prelude.{◌+◌, ◌-◌, ◌*◌, ◌^◌, ◌&&◌}
use Rattle.numbers.specs.Prelude.{ℕ, leb, Bool}
use Rattle.build.specs.{Room.{enough}, declared.room.Work.{Work}}
use Rattle.draft.specs.declared.held.{room.Rooms.{Rooms}, state.Held.{Held}}

-- how much data there is room for, and whether every other list is long enough for what the builder will hold
pub record Space : Type 0 where
  pub bytes : ℕ
  pub lists : Bool

-- a builder's own lists, for so many names, yards and bytes of texts: a border's place and four numbers of a box a yard, a length a text
unfoldable pub own_enough : Rooms → ℕ → ℕ → ℕ → Bool
own_enough r names yards strings =
    leb yards r.borders && (leb (names + 1 + names * yards) r.lengths && (leb strings r.texts && leb (4 * yards) r.boxes))

-- of all lists that are lent, those that a build works in
abbrev pub work_in : Rooms → Work
work_in r =
    record { starts = r.starts; keys = r.keys; spare = r.spare; kept = r.kept; held = r.held; words = r.words; places = r.places; boxes = r.boxes }

-- and what a build works in, of these texts so many bytes being those of the names and the notice
unfoldable pub long_enough : Rooms → ℕ → ℕ → ℕ → ℕ → Bool
long_enough r names yards front strings =
    own_enough r names yards strings
    && enough (work_in r) yards (names * yards) (strings - front)

-- a builder's numbers fit its own lists; its data has a zero byte at least, so the zeros of a refused begin are none
unfoldable pub standing : Held → Rooms → Bool
standing held r =
    leb held.names 255
    && (leb held.yards 4096
    && (leb held.front held.strings
    && (leb 1 held.bytes
    && (leb held.bytes (2 ^ 30)
    && (leb held.bytes r.bytes && own_enough r held.names held.yards held.strings)))))
