-- What is noted beside a builder, so that an add need not sum afresh: a number, which is 0 where nothing is noted, and four lists.
use Rattle.std.specs.Prelude.{◌+◌, ◌*◌, ◌≤◌, ◌<◌, ◌++◌, ◌≡◌}
use Rattle.numbers.specs.{Lists.{zeros}, Prelude.{ℕ, length, List, map}}
use Rattle.builder.specs.{Grouping.Items.{starts_from}, Metadata.{fields_of, layout_of}, Yards.{Text, Yard}}
use Rattle.notes.specs.{Chains.Entered.{Indexed}, Noted.Records.{fields_in, begin_in}}
use Rattle.draft.specs.Held.State.{Front}
use Rattle.build.specs.Metadata.Kept.{joined}

pub record Notes : Type 0 where
  pub marks : List ℕ
  pub chains : List ℕ
  pub groups : List ℕ
  pub begins : List ℕ

abbrev pub notes_as : List ℕ → List ℕ → List ℕ → List ℕ → Notes
notes_as marks chains groups begins = record { marks = marks; chains = chains; groups = groups; begins = begins }

-- the same notes with so many zeros behind each list
pub record MoreNotes : Type 0 where
  pub marks : ℕ
  pub chains : ℕ
  pub groups : ℕ
  pub begins : ℕ

abbrev pub wider_notes : MoreNotes → Notes → Notes
wider_notes more n = notes_as (n.marks ++ zeros more.marks) (n.chains ++ zeros more.chains) (n.groups ++ zeros more.groups) (n.begins ++ zeros more.begins)

-- the values of some yards, one after another
abbrev pub values_in : List Yard → List Text
values_in yards = fields_of (map (λ y. y.values) yards)

-- of some yards, of so many names: where each value begins; the fields and the records, in chains of equal ones; where each yard's record begins. Each list is zero behind that
pub record NotedLists (names : ℕ) (yards : List Yard) (notes : Notes) : Type 0 where
  pub marks_are : Front 0 (starts_from 0 (map length (values_in yards))) notes.marks
  pub indexed : Indexed names (map length (values_in yards)) (joined (values_in yards)) (length yards) notes.chains notes.groups
  pub begins_are : Front 0 (map (begin_in yards) yards) notes.begins

-- with a number that is one more than the length of the records
pub record Noted (names : ℕ) (yards : List Yard) (noted : ℕ) (notes : Notes) : Type 0 where
  pub number : noted ≡ 1 + layout_of (fields_in yards)
  pub lists : NotedLists names yards notes

-- what a number and four lists note
unfoldable pub NotedBy : ℕ → List Yard → ℕ → Notes → Type 0
NotedBy names yards noted notes = 0 < noted → Noted names yards noted notes

-- lists of these lengths can note so many yards of so many names
pub record NotesRoom (names yards marks chains groups begins : ℕ) : Type 0 where
  pub marked : yards * names < marks
  pub chained : 4096 + yards * names ≤ chains
  pub grouped : 4096 + yards ≤ groups
  pub begun : yards ≤ begins
