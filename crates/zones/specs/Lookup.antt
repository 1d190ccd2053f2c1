-- Lookup, as document 01 has it.
use Rattle.numbers.specs.Prelude.{ℕ, binary32, pos, length, take, Bool, true, List, []}
use Rattle.std.specs.Prelude.{to_bits, ◌/◌, ◌≤◌, ◌≡◌, if◌then◌else◌}
use Rattle.numbers.specs.{Float.{to_f32, one_shifted, ◌⊠◌, ◌⊘◌, Root.{root}}, Lists.{padded}, Reply.{Reply, given, refused, ◌>>=◌}}
use Rattle.header.specs.{Header.{head_by, head_of}, declared.header.Head.{Head}}
use Rattle.table.specs.{Find.{ninety, Matched, matched_with}, GivenRows.{matched_listed}, Hits.{width, words, slots}, declared.{find.Matches.{Matches}, location.Location.{Location}}}
use Rattle.zones.specs.{Fields.{fields_of}, Lent.{Outcome, Replied, replied_of}, declared.lookup.{Zones.{Zones}}}

-- the root of the least squared distance as f32, times 90, over 2 ^ (precision - 1), which is -2 ^ 31 at precision 32; 0 if not asked
unfoldable pub safezone_bits : Bool → ℕ → ℕ → ℕ
safezone_bits asked least precision = if asked then to_bits binary32 (root (to_f32 (pos least)) ⊠ ninety ⊘ to_f32 (one_shifted precision)) else 0

-- the matches and their fields, in a file with this header, with so many bytes for text
abbrev pub zones_from : List ℕ → Head → Bool → ℕ → Reply Matched → Reply (Outcome Zones)
zones_from file head asked room matched = do
  found ← matched
  text ← fields_of file head room found.matches []
  given (record {
    answer = record {
      matches = length found.matches;
      mark = found.mark;
      safezone = safezone_bits asked found.least head.preamble.precision;
      used = length text;
    };
    matches = found.matches;
    text = text;
  })

-- with so many words for hits
unfoldable pub zones_with : List ℕ → Head → Location → Bool → ℕ → ℕ → Reply (Outcome Zones)
zones_with file head location asked n room = zones_from file head asked room (matched_with file head location asked (n / width))

-- the file is opened first
abbrev pub zones_by : Reply Head → List ℕ → Location → Bool → ℕ → ℕ → Reply (Outcome Zones)
zones_by opened file location asked n room = do
  head ← opened
  zones_with file head location asked n room

unfoldable pub zones_in : List ℕ → Location → Bool → ℕ → ℕ → Reply (Outcome Zones)
zones_in file location asked n room = zones_by (head_of file) file location asked n room

-- the reply and both lent buffers, in a file with this header
unfoldable pub looked_with : List ℕ → Head → Location → Bool → ℕ → ℕ → Replied Zones
looked_with file head location asked n room = replied_of n room (zones_with file head location asked n room)

-- and in a file that is opened first, plainly or strictly
abbrev pub looked_by : Bool → List ℕ → Location → Bool → ℕ → ℕ → Replied Zones
looked_by strict file location asked n room = replied_of n room (zones_by (head_by strict file) file location asked n room)

unfoldable pub looked_up : List ℕ → Location → Bool → ℕ → ℕ → Replied Zones
looked_up file location asked n room = replied_of n room (zones_in file location asked n room)

-- request Q-6: opened and read strictly
unfoldable pub looked_strictly : List ℕ → Location → Bool → ℕ → ℕ → Replied Zones
looked_strictly file location asked n room = looked_by true file location asked n room

-- request Q-11: among rows that are given as words, in a file with this header
unfoldable pub zones_listed : List ℕ → Head → Location → Bool → List ℕ → List ℕ → ℕ → ℕ → Reply (Outcome Zones)
zones_listed file head location asked records numbers n room = zones_from file head asked room (matched_listed file head location asked records numbers (n / width))

unfoldable pub looked_listed : List ℕ → Head → Location → Bool → List ℕ → List ℕ → ℕ → ℕ → Replied Zones
looked_listed file head location asked records numbers n room = replied_of n room (zones_listed file head location asked records numbers n room)

-- ---- the code's answer
-- after a search: what is said of the matches, and the fields in so many bytes of text
pub record Told (room : ℕ) (text : List ℕ) (asked : Bool) (precision : ℕ) (found : Matches) (out : List ℕ) (zones : Zones) : Type 0 where
  pub said : zones ≡ record { matches = found.count; mark = found.mark; safezone = safezone_bits asked found.least precision; used = length out }
  pub kept : text ≡ padded room out

-- what a search found, by its count of matches in the lent words
abbrev pub matched_in : Reply Matches → List ℕ → Reply Matched
matched_in (given m) hits = given (record { matches = take m.count (slots hits); mark = m.mark; least = m.least })
matched_in (refused why) hits = refused why

-- these words hold them, and zeros behind
abbrev pub Kept : Reply Matches → List ℕ → Type 0
Kept (given m) hits = (m.count ≤ length hits / width) × (hits ≡ padded (length hits) (words (take m.count (slots hits))))
Kept (refused why) hits = Unit {0}
