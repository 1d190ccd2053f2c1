-- Simple lookup, as document 01 has it: the fields of every match are checked, and the first match is described.
use Rattle.std.specs.Prelude.{◌+◌, ◌/◌, ◌≤◌, ◌&&◌, ◌∷◌, ◌++◌, ◌≡◌, if◌then◌else◌, Option, Some, None, option_map}
use Rattle.numbers.specs.Prelude.{ℕ, zero, suc, eqb, leb, length, Bool, true, false, List, []}
use Rattle.numbers.specs.{Lists.{padded}, Reply.{Reply, given, refused, plain, demand, ◌>>=◌, ◌>>◌}}
use Rattle.header.specs.{Header.{blame_of, head_of}, Text.{text_at, bytes_of}, declared.{header.Head.{Head}, text.Text.{Text}}}
use Rattle.table.specs.{Find.{Matched, matched_with}, Hits.{width}, declared.{find.Matches.{Matches}, hits.Hit.{Hit}, location.Location.{Location}}}
use Rattle.zones.specs.{Fields.{fields_place}, Lent.{Outcome, Replied, replied_of}, declared.simple.{Described.{Described}, Parts.{Parts}, Picked.{Picked}}}

-- ---- the wanted names
unfoldable pub same : List ℕ → List ℕ → Bool
same [] [] = true
same [] (y ∷ ys) = false
same (x ∷ xs) [] = false
same (x ∷ xs) (y ∷ ys) = eqb x y && same xs ys

-- `Name`
abbrev pub name : List ℕ
name = 0x4E ∷ 0x61 ∷ 0x6D ∷ 0x65 ∷ []

-- `TimezoneId`
abbrev pub timezone_id : List ℕ
timezone_id = 0x54 ∷ 0x69 ∷ 0x6D ∷ 0x65 ∷ 0x7A ∷ 0x6F ∷ 0x6E ∷ 0x65 ∷ 0x49 ∷ 0x64 ∷ []

-- `TimezoneIdPrefix`
abbrev pub timezone_id_prefix : List ℕ
timezone_id_prefix = timezone_id ++ 0x50 ∷ 0x72 ∷ 0x65 ∷ 0x66 ∷ 0x69 ∷ 0x78 ∷ []

-- which part of the description a field is, by its name: a time zone's prefix is 1 and its id 2, a country's name is 1, any other field 0
abbrev pub part_of : ℕ → List ℕ → ℕ
part_of kind called =
    if eqb kind 0x54 then (if same called timezone_id_prefix then 1 else (if same called timezone_id then 2 else 0))
    else (if same called name then 1 else 0)

-- ---- the last field of each
-- none at first; a country's second part is empty
abbrev pub begun : ℕ → Picked
begun kind = record { one = None; two = if eqb kind 0x54 then None else Some (record { start = 0; size = 0; next = 0 }) }

abbrev pub newer : ℕ → Text → Picked → Picked
newer part value last =
    if eqb part 1 then record { one = Some value; two = last.two }
    else (if eqb part 2 then record { one = last.one; two = Some value } else last)

-- one part after the other, none if one is missing
abbrev pub joined : List ℕ → Option Text → Option Text → Option (List ℕ)
joined file (Some one) (Some two) = Some (bytes_of file one ++ bytes_of file two)
joined file (Some one) None = None
joined file None two = None

module _ (file : List ℕ) (head : Head) where
  -- so many fields from an index on, each name, which opening has read already, beside its value
  unfoldable pub picked_from : ℕ → ℕ → ℕ → ℕ → Picked → Reply Picked
  picked_from zero index names values last = given last
  picked_from (suc more) index names values last = do
    called ← text_at head.strict file 0 names (blame_of head.preamble.count index)
    value ← text_at head.strict file head.sections.metadata values (record { number = 15; detail = 0 })
    picked_from more (index + 1) called.next value.next (newer (part_of head.preamble.kind (bytes_of file called)) value last)

  -- the wanted fields of a metadata id
  abbrev pub picked_at : ℕ → Reply Picked
  picked_at metadata = picked_from head.preamble.count 0 7 (fields_place head metadata) (begun head.preamble.kind)

  -- and of a match
  abbrev pub picked_of : Hit → Reply Picked
  picked_of match = picked_at match.metadata

  -- the fields of every match can be read
  unfoldable pub checked : List Hit → Reply (Unit {0})
  checked [] = given tt
  checked (match ∷ matches) = picked_of match >>= λ picked. checked matches

  -- what a metadata id describes: none where a wanted name is missing
  abbrev pub description_at : ℕ → Reply (Option (List ℕ))
  description_at metadata = do
    picked ← picked_at metadata
    given (joined file picked.one picked.two)

  -- of the first match
  unfoldable pub description_of : List Hit → Reply (Option (List ℕ))
  description_of [] = given None
  description_of (match ∷ matches) = description_at match.metadata

-- ---- the reply
abbrev pub bytes_in : Option (List ℕ) → List ℕ
bytes_in None = []
bytes_in (Some bytes) = bytes

abbrev pub length_in : Option (List ℕ) → Option ℕ
length_in = option_map length

-- 18 where bytes have no room
abbrev pub fitting : ℕ → List ℕ → Reply (List ℕ)
fitting room bytes = demand (leb (length bytes) room) (plain 18) >> given bytes

-- the description that goes into the text
unfoldable pub worded_of : List ℕ → Head → ℕ → List Hit → Reply (Option (List ℕ))
worded_of file head room matches = do
  description ← description_of file head matches
  bytes ← fitting room (bytes_in description)
  given description

-- every match is checked, then the first described
abbrev pub describing : List ℕ → Head → ℕ → List Hit → Reply (Option (List ℕ))
describing file head room matches = checked file head matches >> worded_of file head room matches

-- the matches and the description, in a file with this header, with so many bytes for text
abbrev pub described_from : List ℕ → Head → ℕ → Reply Matched → Reply (Outcome Described)
described_from file head room matched = do
  found ← matched
  checked file head found.matches
  description ← worded_of file head room found.matches
  given (record {
    answer = record { matches = length found.matches; mark = found.mark; description = length_in description };
    matches = found.matches;
    text = bytes_in description;
  })

-- with so many words for hits
unfoldable pub described_with : List ℕ → Head → Location → ℕ → ℕ → Reply (Outcome Described)
described_with file head location n room = described_from file head room (matched_with file head location false (n / width))

-- the file is opened first
unfoldable pub described_in : List ℕ → Location → ℕ → ℕ → Reply (Outcome Described)
described_in file location n room = do
  head ← head_of file
  described_with file head location n room

-- the reply and both lent buffers, in a file with this header
unfoldable pub simply_looked_with : List ℕ → Head → Location → ℕ → ℕ → Replied Described
simply_looked_with file head location n room = replied_of n room (described_with file head location n room)

-- and in a file that is opened first
unfoldable pub simply_looked : List ℕ → Location → ℕ → ℕ → Replied Described
simply_looked file location n room = replied_of n room (described_in file location n room)

-- ---- the code's answers
-- a name by its bytes
abbrev pub told_named : List ℕ → Reply (Option Parts) → Reply (Option (List ℕ))
told_named file (given (Some parts)) = given (Some (bytes_of file parts.one ++ bytes_of file parts.two))
told_named file (given None) = given None
told_named file (refused why) = refused why

-- both parts of a name lie in so many bytes
pub record LiesParts (size : ℕ) (parts : Parts) : Type 0 where
  pub one : parts.one.start + parts.one.size ≤ size
  pub two : parts.two.start + parts.two.size ≤ size

unfoldable pub LiesNamed : ℕ → Reply (Option Parts) → Type 0
LiesNamed size (given (Some parts)) = LiesParts size parts
LiesNamed size (given None) = Unit {0}
LiesNamed size (refused why) = Unit {0}

-- after a search: what is said of the matches, and the description in so many bytes of text
pub record ToldSimply (room : ℕ) (text : List ℕ) (found : Matches) (worded : Option (List ℕ)) (described : Described) : Type 0 where
  pub said : described ≡ record { matches = found.count; mark = found.mark; description = length_in worded }
  pub kept : text ≡ padded room (bytes_in worded)

pub record Worded (room : ℕ) (text : List ℕ) (worded : Option (List ℕ)) (description : Option ℕ) : Type 0 where
  pub said : description ≡ length_in worded
  pub kept : text ≡ padded room (bytes_in worded)
