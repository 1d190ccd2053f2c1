-- What `add` promises.
use Rattle.std.specs.Prelude.{◌+◌, ◌*◌, ◌≤◌, ◌<◌, ◌&&◌, ◌++◌, ◌≡◌}
use Rattle.numbers.specs.{Lists.{zeros}, Prelude.{ℕ, min, leb, length, drop, Bool, false, List}, Reply.{refused, plain}}
use Rattle.builder.specs.Yards.{sum_of}
use Rattle.add.specs.{Growing.{Joins.{Renoted}, Notes.{Notes, NotedBy}}, declared.{adding.room.NoteRooms.{NoteRooms}, growing.grow.Added.{Added}}}
use Rattle.draft.specs.{Held.{Builder.{Builder, Offered, add, joined}, Space.{Space, long_enough, standing}, State.{Lists, Holds, Answers}}, declared.held.{room.Rooms.{Rooms}, state.Held.{Held}}}

-- the lists of notes are long enough for so many names and yards: a word more than there are values; 4,096 and one a value; 4,096 and one a yard; one a yard
unfoldable pub notes_enough : NoteRooms → ℕ → ℕ → Bool
notes_enough r names yards =
    leb (yards * names + 1) r.marks && (leb (4096 + yards * names) r.chains && (leb (4096 + yards) r.groups && leb yards r.begins))

abbrev pub note_rooms : Notes → NoteRooms
note_rooms n = record { marks = length n.marks; chains = length n.chains; groups = length n.groups; begins = length n.begins }

-- the room for an offered yard, with an output of this length
abbrev pub space_for : Held → Rooms → NoteRooms → Offered → ℕ → Space
space_for held rooms notes o out =
    record {
      bytes = min rooms.bytes out;
      lists = long_enough rooms held.names (held.yards + 1) held.front (held.strings + sum_of o.lengths) && notes_enough notes held.names (held.yards + 1);
    }

-- the definition's answer, and what is noted with it, for a builder that calls have made and notes that are right; 28 and no change for one whose numbers do not fit its lists
pub record Adds (held : Held) (noted : ℕ) (o : Offered) (rooms : Rooms) (lent : NoteRooms) (out : ℕ) (before after : Lists) (notes notes' : Notes) (r : Added) : Type 0 where
  pub answers : (b : Builder) → Holds b held before → NotedBy held.names b.plan.yards noted notes
      → Answers (add b o (space_for held rooms lent o out)) before after r.changed × Renoted held.names (joined b.plan o).yards noted notes r.noted notes' r.changed
  pub stands_not : standing held rooms ≡ false → (r ≡ record { changed = refused (plain 28); noted = noted }) × ((after ≡ before) × (notes' ≡ notes))

-- so much of an output is used: what a border of so many points can take
abbrev pub border_room : ℕ → ℕ → ℕ
border_room points out = min (170 * min points 65536 + 400) out

-- and it is zero then; the rest is as it was
abbrev pub used_out : ℕ → List ℕ → List ℕ
used_out points out = zeros (border_room points (length out)) ++ drop (border_room points (length out)) out

-- ---- what the inner functions say of each other
-- a builder's numbers, for lists that so many bytes of texts fit
pub record Few (held : Held) (texts : ℕ) : Type 0 where
  pub names : held.names ≤ 255
  pub yards : held.yards < 4096
  pub order : held.front ≤ held.strings
  pub inside : held.strings ≤ texts
