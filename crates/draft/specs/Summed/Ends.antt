-- The end of a builder.
use Rattle.std.specs.Prelude.{◌+◌, ◌-◌, ◌*◌, ◌^◌, ◌≤◌, ◌&&◌, ◌≡◌}
use Rattle.numbers.specs.{Lists.{zeros}, Prelude.{ℕ, eqb, leb, length, take, drop, Bool, true, false, List}, Reply.{Reply, refused, plain}}
use Rattle.numbers.specs.declared.refusal.Refusal.{Refusal}
use Rattle.builder.specs.{File.{fitted}, Yards.{sum_of}}
use Rattle.build.specs.{Room.{enough}, declared.room.Work.{Work}}
use Rattle.draft.specs.{Held.{Builder.{Builder, finish}, Space.{Space, long_enough, standing}, State.{Holds, Lists}}, declared.held.{room.Rooms.{Rooms}, state.Held.{Held}}}

-- what is asked of the lists that are lent with a builder
abbrev pub space_of : Held → Rooms → Space
space_of held r = record { bytes = r.bytes; lists = long_enough r held.names held.yards held.front held.strings }

-- the reply and the output
unfoldable pub Finishes : Reply (List ℕ) → ℕ → List ℕ → Reply ℕ → Type 0
Finishes reply room out r = record { reply = r; out = out } ≡ fitted room reply

-- the file of a builder that calls have made, in an output of this length; where its numbers do not fit its lists, 28; a refusal leaves zeros, whatever the state
pub record Files (held : Held) (rooms : Rooms) (lists : Lists) (room : ℕ) (out : List ℕ) (built : Reply ℕ) : Type 0 where
  pub answers : (b : Builder) → Holds b held lists → Finishes (finish b room (space_of held rooms)) room out built
  pub broken : standing held rooms ≡ false → built ≡ refused (plain 28)
  pub emptied : (why : Refusal) → built ≡ refused why → out ≡ zeros room

-- ---- what the inner functions say of each other
-- the numbers of a builder fit these lengths
pub record Texts (held : Held) (lengths : ℕ) : Type 0 where
  pub named : held.names ≤ 255
  pub few : held.yards ≤ 4096
  pub order : held.front ≤ held.strings
  pub all : held.names + 1 + held.names * held.yards ≤ lengths

-- and the lengths are those of the texts
unfoldable pub texts_whole : Held → List ℕ → Bool
texts_whole held lengths =
    leb held.strings (2 ^ 29)
    && (eqb (sum_of (take (held.names + 1) lengths)) held.front
    && eqb (sum_of (take (held.names + 1 + held.names * held.yards - (held.names + 1)) (drop (held.names + 1) lengths))) (held.strings - held.front))

-- all lists are long enough
pub record Putting (held : Held) (lengths : List ℕ) (texts borders bytes : ℕ) (work : Work) : Type 0 where
  pub fits : Texts held (length lengths)
  pub whole : texts_whole held lengths ≡ true
  pub strings : held.strings ≤ texts
  pub bordered : held.yards ≤ borders
  pub data_in : held.bytes ≤ bytes
  pub data_few : held.bytes ≤ 2 ^ 30
  pub room : enough work held.yards (held.names * held.yards) (held.strings - held.front) ≡ true
