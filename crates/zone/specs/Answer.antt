-- What the program asks of the library, as document 01 has it: latitude and longitude, then the file.
use Rattle.numbers.specs.{Prelude.{ℕ, leb, binary32, length, drop, true, List}, Reply.{Reply, plain, demand, ◌>>◌}}
use Rattle.std.specs.Float.Ieee.{of_bits}
use Rattle.line.specs.Bytes.{word_at}
use Rattle.zones.specs.{Lent.{Outcome, Replied, replied_of}, Lookup.{zones_in}, declared.lookup.Zones.{Zones}}
use Rattle.table.specs.declared.location.Location.{Location}

abbrev pub location_of : List ℕ → Location
location_of input = record { lat = of_bits binary32 (word_at input 0); lon = of_bits binary32 (word_at input 4) }

-- over 65,536 bytes refusal 1, under eight 2; else what the lookup says, with so many words for hits and bytes for text
unfoldable pub outcome_of : List ℕ → ℕ → ℕ → Reply (Outcome Zones)
outcome_of input n room = do
  demand (leb (length input) 65536) (plain 1)
  demand (leb 8 (length input)) (plain 2)
  zones_in (drop 8 input) (location_of input) true n room

-- the reply and both lent buffers
unfoldable pub answer_of : List ℕ → ℕ → ℕ → Replied Zones
answer_of input n room = replied_of n room (outcome_of input n room)
