-- How a builder's numbers, and what its calls reply, go over to C.
use Rattle.std.specs.Prelude.{◌%◌, ◌^◌, ◌∷◌, ◌≡◌}
use Rattle.numbers.specs.{Point.{read_i32}, Prelude.{ℕ, get_or, List, [], w32, of_z}, Reply.{Reply, given, refused}, Spoken.{said_of}}
use Rattle.add.specs.declared.growing.grow.Added.{Added}
use Rattle.draft.specs.declared.held.state.Held.{Held}
use Rattle.office.specs.Written.{length_value}

-- of fourteen words thirteen, one for each number of a builder; of the first four and the thirteenth only the low bits count
unfoldable pub held_of : List ℕ → Held
held_of words =
    record {
      kind = get_or words 0 0 % 2 ^ 8;
      version = get_or words 1 0 % 2 ^ 8;
      precision = get_or words 2 0 % 2 ^ 8;
      names = get_or words 3 0 % 2 ^ 32;
      room = get_or words 4 0;
      head = get_or words 5 0;
      front = get_or words 6 0;
      strings = get_or words 7 0;
      table = get_or words 8 0;
      metadata = get_or words 9 0;
      bytes = get_or words 10 0;
      yards = get_or words 11 0;
      greatest = read_i32 (get_or words 12 0 % 2 ^ 32);
    }

-- the last one: what is noted beside it
unfoldable pub noted_in : List ℕ → ℕ
noted_in words = get_or words 13 0

-- the words that a builder's numbers are kept in, with what is noted: no other bit is set
unfoldable pub words_of : Held → ℕ → List ℕ
words_of held noted =
    held.kind
    ∷ held.version
    ∷ held.precision
    ∷ held.names
    ∷ held.room
    ∷ held.head
    ∷ held.front
    ∷ held.strings
    ∷ held.table
    ∷ held.metadata
    ∷ held.bytes
    ∷ held.yards
    ∷ of_z w32 held.greatest
    ∷ noted
    ∷ []

-- the totals: the sizes of the three sections, how many yards there are, the 32 bits of their greatest lower latitude
abbrev pub totals_values : Held → List ℕ
totals_values held = held.table ∷ held.metadata ∷ held.bytes ∷ held.yards ∷ of_z w32 held.greatest ∷ []

-- the words of a state are those of the changed builder and read back as it, with what is noted then; or they are what they were
unfoldable pub Kept : ℕ → List ℕ → List ℕ → Reply Held → Type 0
Kept noted before after (given held) = (after ≡ words_of held noted) × (held_of after ≡ held)
Kept noted before after (refused why) = after ≡ before

-- what a call says and leaves in the state
pub record Spoke (changed : Reply Held) (noted : ℕ) (before after : List ℕ) (number : ℕ) (words : List ℕ) : Type 0 where
  pub said : record { number = number; words = words } ≡ said_of totals_values changed
  pub kept : Kept noted before after changed

-- the same of a change that is as the promise of the builder in the state's words says; nothing is noted then
pub record Speaks (Promised : Held → Reply Held → Type 0) (before after : List ℕ) (number : ℕ) (words : List ℕ) : Type 0 where
  pub changed : Reply Held
  pub promised : Promised (held_of before) changed
  pub spoke : Spoke changed 0 before after number words

-- and of an add, whose promise speaks of what is noted too
pub record SpeaksNoted (Promised : Held → ℕ → Added → Type 0) (before after : List ℕ) (number : ℕ) (words : List ℕ) : Type 0 where
  pub added : Added
  pub promised : Promised (held_of before) (noted_in before) added
  pub spoke : Spoke added.changed added.noted before after number words

-- and of the end, which leaves the state as it is
pub record Ends (Promised : Held → Reply ℕ → Type 0) (state : List ℕ) (number : ℕ) (words : List ℕ) : Type 0 where
  pub built : Reply ℕ
  pub promised : Promised (held_of state) built
  pub said : record { number = number; words = words } ≡ said_of length_value built
