-- Where a value lies in a builder's lists, and whether a text may stand there.
use Rattle.std.specs.Prelude.{◌+◌, ◌-◌, ◌*◌, ◌^◌, ◌&&◌}
use Rattle.numbers.specs.{Prelude.{ℕ, ltb, leb, length, take, get_or, Bool, List}, Reply.{Reply, given, plain, demand, ◌>>◌}}
use Rattle.builder.specs.{File.{is_text}, Yards.{Text, sum_of}}
use Rattle.draft.specs.{Held.Space.{long_enough, standing}, declared.held.{room.Rooms.{Rooms}, state.Held.{Held}}}
use Rattle.edit.specs.declared.replacing.check.Spot.{Spot}

-- behind the names and the notice, yard by yard
abbrev pub text_at : ℕ → ℕ → ℕ → ℕ
text_at names yard field = names + 1 + (yard * names + field)

abbrev pub spot_in : ℕ → List ℕ → Spot
spot_in index lengths = record { index = index; place = sum_of (take index lengths); from = sum_of (take index lengths) + get_or lengths index 0 }

-- of a state that no call has made, nothing is known of this
unfoldable pub within : Held → Spot → Bool
within held spot = leb held.front spot.place && (leb spot.from held.strings && (leb (spot.from - spot.place) 255 && leb held.strings (2 ^ 40)))

-- with a text of this size there
abbrev pub size_with : Held → Spot → ℕ → ℕ
size_with held spot size = spot.place + size + (held.strings - spot.from)

unfoldable pub checked_of : Held → Rooms → ℕ → ℕ → ℕ → Text → List ℕ → Reply Spot
checked_of held rooms out yard field text lengths = do
  demand (standing held rooms) (plain 28)
  demand (ltb yard held.yards && ltb field held.names) (plain 30)
  demand (is_text text) (plain 26)
  demand (within held (spot_in (text_at held.names yard field) lengths)) (plain 28)
  demand (leb held.strings out && long_enough rooms held.names held.yards held.front (size_with held (spot_in (text_at held.names yard field) lengths) (length text))) (plain 28)
  given (spot_in (text_at held.names yard field) lengths)
