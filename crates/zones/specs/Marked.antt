-- Lookup among rows that are given as words with marks along their borders: document 04.
use Rattle.std.specs.Prelude.{◌/◌}
use Rattle.numbers.specs.{Prelude.{ℕ, Bool, List}, Reply.{Reply}}
use Rattle.header.specs.declared.header.Head.{Head}
use Rattle.table.specs.{Hits.{width}, MarkedRows.{matched_marked}, declared.location.Location.{Location}}
use Rattle.zones.specs.{Lent.{Outcome, Replied, replied_of}, Lookup.{zones_from}, declared.lookup.Zones.{Zones}}

-- in a file with this header
unfoldable pub zones_marked : List ℕ → Head → Location → Bool → List ℕ → List ℕ → List ℕ → ℕ → ℕ → Reply (Outcome Zones)
zones_marked file head location asked records numbers marks n room = zones_from file head asked room (matched_marked file head location asked records numbers marks (n / width))

-- the reply and both lent buffers
unfoldable pub looked_marked : List ℕ → Head → Location → Bool → List ℕ → List ℕ → List ℕ → ℕ → ℕ → Replied Zones
looked_marked file head location asked records numbers marks n room = replied_of n room (zones_marked file head location asked records numbers marks n room)
