-- What exported calls make of a builder, one after another: of each call nothing is used but what its exported function promises.
use Rattle.std.specs.Prelude.{if◌then◌else◌, ◌-◌, ◌∷◌, ◌++◌, ◌≡◌}
use Rattle.numbers.specs.{Lists.{zeros}, Prelude.{ℕ, eqb, length, take, get_or, List, [], w32, of_z}}
use Rattle.add.specs.{Adding.Adds.{Adds}, Growing.Notes.{MoreNotes, Notes, wider_notes}, declared.adding.room.NoteRooms.{NoteRooms}}
use Rattle.builder.specs.Yards.{Plan, Text, Yard}
use Rattle.edit.specs.{Changing.{Begun.{Begins}, Dropped.{Drops}, Emptied.{Clears}}, Replacing.Replaced.{Replaces}}
use Rattle.draft.specs.{Held.{Builder.{Offered, changed_at, with_value, yard_of}, Space.{Space}, State.{Lists, More, wider}, Totals.{Totals}}, declared.held.room.Rooms.{Rooms}}
use Rattle.office.specs.Draft.{Speaks, SpeaksNoted}

-- what a caller keeps of a builder between two calls: its words, its lists, its notes
pub record Shelf : Type 0 where
  pub state : List ℕ
  pub lists : Lists
  pub notes : Notes

-- one call, which found the one shelf and left the other, and returned this number; and what it makes of the yards where that is 0
pub data Called (found left : Shelf) (number : ℕ) : (List Yard → List Yard) → Type 0 where
  -- `uskelzar_add`
  adds : (o : Offered) (rooms : Rooms) (lent : NoteRooms) (out : ℕ) (words : List ℕ)
      → SpeaksNoted (λ h noted. Adds h noted o rooms lent out found.lists left.lists found.notes left.notes) found.state left.state number words
      → Called found left number (λ yards. yards ++ (yard_of o ∷ []))
  -- `uskelzar_drop_last`; like the two behind it, it takes no notes
  drops : (rooms : Rooms) (words : List ℕ) → Speaks (λ h. Drops h rooms found.lists left.lists) found.state left.state number words → left.notes ≡ found.notes
      → Called found left number (λ yards. take (length yards - 1) yards)
  -- `uskelzar_replace`
  replaces : (rooms : Rooms) (out yard field : ℕ) (text : Text) (words : List ℕ)
      → Speaks (λ h. Replaces h rooms out yard field text found.lists left.lists) found.state left.state number words → left.notes ≡ found.notes
      → Called found left number (changed_at yard (with_value field text))
  -- `uskelzar_clear`
  clears : (rooms : Rooms) (words : List ℕ) → Speaks (λ h. Clears h rooms found.lists left.lists) found.state left.state number words → left.notes ≡ found.notes
      → Called found left number (λ yards. [])

-- the yards after a call that returned this number: a refused one changes none
unfoldable pub yards_after : ℕ → List Yard → List Yard → List Yard
yards_after number changed yards = if eqb number 0 then changed else yards

-- a shelf that calls have made, with names, notice and room as it was begun, and the yards that were added and not taken away
pub data Made (plan : Plan) (room : ℕ) : List Yard → Shelf → Type 0 where
  -- `uskelzar_begin` returned 0, whatever the state, the lists and the notes held
  begun : (space : Space) (before : Lists) (words : List ℕ) (shelf : Shelf) → Speaks (λ h. Begins plan room space before shelf.lists) (zeros 14) shelf.state 0 words → Made plan room [] shelf
  -- any call behind that, answered or refused
  called : (yards : List Yard) (found left : Shelf) (number : ℕ) (change : List Yard → List Yard) → Made plan room yards found → Called found left number change
      → Made plan room (yards_after number (change yards) yards) left
  -- lists that have grown since
  grown : (yards : List Yard) (shelf : Shelf) (more : More) (more_notes : MoreNotes) → Made plan room yards shelf
      → Made plan room yards (record { state = shelf.state; lists = wider more shelf.lists; notes = wider_notes more_notes shelf.notes })

-- words 8 to 12 of a state are these totals
pub record TotalsIn (state : List ℕ) (totals : Totals) : Type 0 where
  pub table : get_or state 8 0 ≡ totals.table
  pub metadata : get_or state 9 0 ≡ totals.metadata
  pub bytes : get_or state 10 0 ≡ totals.bytes
  pub yards : get_or state 11 0 ≡ totals.yards
  pub greatest : get_or state 12 0 ≡ of_z w32 totals.greatest
