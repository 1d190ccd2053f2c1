-- Lookup through an atlas, as document 04 has it: among the rows in the list of the fix's tile, by the marks along their borders.
use Rattle.std.specs.Prelude.{◌+◌, ◌-◌, ◌*◌, ◌/◌, ◌&&◌}
use Rattle.numbers.specs.{Prelude.{ℕ, ltb, leb, length, take, drop, Bool, List}, Reply.{Reply, given, refused, plain, demand, ◌>>=◌, ◌>>◌}}
use Rattle.header.specs.{Header.{head_of}, declared.header.Head.{Head}}
use Rattle.index.specs.{Index.{tiles, records_at}, Through.{start_of, place_of}, Tied.{word_at}}
use Rattle.table.specs.{Find.{Matched}, Hits.{width}, MarkedRows.{matched_marked}, declared.location.Location.{Location}}
use Rattle.zones.specs.{Lent.{Outcome, Replied, replied_of}, Lookup.{zones_from}, declared.lookup.Zones.{Zones}}
use Rattle.atlas.specs.declared.parts.Parts.{Parts}

-- the length of all words stands behind the lists, and they are as many: a list that was cut is seen
abbrev pub is_whole : List ℕ → Bool
is_whole words = ltb (start_of words tiles) (length words) && leb (word_at words (start_of words tiles)) (length words)

-- where the records end, the list of the location's tile, and where entries and marks begin: 16, then 36 where the words do not go with the file, or were cut
unfoldable pub parts_of : ℕ → Head → List ℕ → Location → Reply Parts
parts_of long head words location = do
  place ← place_of long head words location
  demand (is_whole words) (plain 36)
  given (record { behind = records_at + 7 * word_at words 2; from = place.from; end = place.end; beside = start_of words tiles + 1 })

-- a part of the words
abbrev pub part_in : List ℕ → ℕ → ℕ → List ℕ
part_in words from end = take (end - from) (drop from words)

-- the matches by them, in a file with this header, with room for so many hits before merging
unfoldable pub matched_atlas : List ℕ → Head → List ℕ → Location → Bool → ℕ → Reply Matched
matched_atlas file head words location asked room = do
  parts ← parts_of (length file) head words location
  matched_marked file head location asked (part_in words records_at parts.behind) (part_in words parts.from parts.end) (drop parts.beside words) room

-- the lookup, with so many words for hits and so many bytes for text
unfoldable pub zones_atlas : List ℕ → Head → List ℕ → Location → Bool → ℕ → ℕ → Reply (Outcome Zones)
zones_atlas file head words location asked n room = zones_from file head asked room (matched_atlas file head words location asked (n / width))

-- the reply and both lent buffers
unfoldable pub looked_atlas : List ℕ → List ℕ → Location → Bool → ℕ → ℕ → Replied Zones
looked_atlas file words location asked n room = replied_of n room (head_of file >>= λ head. zones_atlas file head words location asked n room)
