-- Through an atlas or without one, as document 04 has it for simple lookup, many fixes and the slip: an empty list of words is none.
use Rattle.std.specs.Prelude.{◌/◌, ◌∷◌, ◌⊎◌, ◌≡◌}
use Rattle.numbers.specs.{Prelude.{ℕ, Bool, false, List, []}, Reply.{Reply, given, ◌>>=◌}}
use Rattle.header.specs.{Header.{head_of}, declared.header.Head.{Head}}
use Rattle.table.specs.{Find.{Matched, matched_with}, Hits.{width}, declared.location.Location.{Location}}
use Rattle.zones.specs.{Lent.{Outcome, Replied, replied_of}, Lookup.{zones_from}, Simple.{described_from}, declared.{lookup.Zones.{Zones}, simple.Described.{Described}}}
use Rattle.atlas.specs.{Atlas.{is_atlas_of}, Looked.{matched_atlas}}

-- there is no atlas, or `is_atlas` says 0 of the words
abbrev pub NoneOrAtlas : List ℕ → List ℕ → Type 0
NoneOrAtlas file words = (words ≡ []) ⊎ (is_atlas_of file words ≡ given tt)

-- the matches, in a file with this header, with room for so many hits before merging
unfoldable pub matched_beside : List ℕ → Head → List ℕ → Location → Bool → ℕ → Reply Matched
matched_beside file head [] location asked room = matched_with file head location asked room
matched_beside file head (word ∷ words) location asked room = matched_atlas file head (word ∷ words) location asked room

-- the lookup, with so many words for hits and so many bytes for text
unfoldable pub zones_beside : List ℕ → Head → List ℕ → Location → Bool → ℕ → ℕ → Reply (Outcome Zones)
zones_beside file head words location asked n room = zones_from file head asked room (matched_beside file head words location asked (n / width))

-- simple lookup
unfoldable pub described_beside : List ℕ → Head → List ℕ → Location → ℕ → ℕ → Reply (Outcome Described)
described_beside file head words location n room = described_from file head room (matched_beside file head words location false (n / width))

-- in a file that is opened first: the reply and both lent buffers
unfoldable pub simply_beside : List ℕ → List ℕ → Location → ℕ → ℕ → Replied Described
simply_beside file words location n room = replied_of n room (head_of file >>= λ head. described_beside file head words location n room)
