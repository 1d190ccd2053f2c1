-- Lookup through an index, as request Q-11 has it: the rows in the list of the fix's tile are looked at, and no other.
use Rattle.std.specs.Prelude.{◌+◌, ◌-◌, ◌*◌, ◌&&◌}
use Rattle.numbers.specs.{Prelude.{ℕ, leb, length, take, drop, Bool, List}, Reply.{Reply, given, refused, plain, demand, ◌>>=◌, ◌>>◌}}
use Rattle.table.specs.{Find.{fix_of, is_precision}, declared.location.Location.{Location}}
use Rattle.header.specs.{Header.{head_of}, declared.header.Head.{Head}}
use Rattle.zones.specs.{Lent.{Outcome, Replied, replied_of}, Lookup.{zones_listed}, declared.lookup.Zones.{Zones}}
use Rattle.index.specs.{Index.{tiles, records_at}, Tied.{word_at, is_headed, tied_with}, Tiles.{tile_of}, declared.place.Place.{Place}}

-- where the list of a tile begins; that of the next begins where it ends
abbrev pub start_of : List ℕ → ℕ → ℕ
start_of words t = word_at words (3 + t)

-- a tile's list stands inside the lists, which go from the first's begin to where the last ends
abbrev pub is_inside : List ℕ → ℕ → Bool
is_inside words t = leb (start_of words 0) (start_of words t) && (leb (start_of words t) (start_of words (t + 1)) && leb (start_of words (t + 1)) (start_of words tiles))

-- where the list of the location's tile stands in the words: 16, then 36 where their head does not go with the file, or the list is not inside the lists
unfoldable pub place_of : ℕ → Head → List ℕ → Location → Reply Place
place_of long head words location = do
  let precision = head.preamble.precision
  let size = head.sections.metadata
  let tile = tile_of precision (fix_of location precision)
  demand (is_precision precision) (plain 16)
  demand (is_headed words size long) (plain 36)
  demand (is_inside words tile) (plain 36)
  given (record { from = start_of words tile; end = start_of words (tile + 1) })

-- the records of the words, and the numbers of a list
abbrev pub records_in : List ℕ → List ℕ
records_in words = take (7 * word_at words 2) (drop records_at words)

abbrev pub numbers_in : List ℕ → Place → List ℕ
numbers_in words place = take (place.end - place.from) (drop place.from words)

-- the lookup among them, in a file with this header
unfoldable pub zones_through : List ℕ → Head → List ℕ → Location → Bool → ℕ → ℕ → Reply (Outcome Zones)
zones_through file head words location asked n room = do
  place ← place_of (length file) head words location
  zones_listed file head location asked (records_in words) (numbers_in words place) n room

-- the reply and both lent buffers: without a comparison of header and table, and with one
unfoldable pub looked_through : List ℕ → List ℕ → Location → Bool → ℕ → ℕ → Replied Zones
looked_through file words location asked n room = replied_of n room (head_of file >>= λ head. zones_through file head words location asked n room)

unfoldable pub looked_indexed : List ℕ → List ℕ → Location → Bool → ℕ → ℕ → Replied Zones
looked_indexed file words location asked n room = replied_of n room (head_of file >>= λ head. tied_with file head words >> zones_through file head words location asked n room)
