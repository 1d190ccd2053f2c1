-- The entries of yards as they came, and the neighbours that one more has in the table.
use Rattle.std.specs.Prelude.{◌+◌, ◌*◌, ◌≤◌, ◌<◌, ◌≡◌}
use Rattle.numbers.specs.Prelude.{ℕ, zero, suc, ℤ, pos, length, get_or, List, map, Option, some, none}
use Rattle.builder.specs.{Entries.{Entry, bounds_at, entry_at, entry_bytes, from_south}, Grouping.Keys.{numbers_from}, declared.entry.Places.{Places}}
use Rattle.draft.proofs.held.Inserted.{low_in, high_in}
use Rattle.layout.specs.Order.{sorted_by}

-- a yard's entry, of its box, where its record begins and where its border does
abbrev pub entry_for : List ℤ → List ℕ → List ℕ → ℕ → Entry
entry_for boxes begins borders yard = entry_at (bounds_at boxes yard) (record { «record» = get_or begins yard 0; border = get_or borders yard 0 })

-- the entries of the first yards, as they came
unfoldable pub entries_at : List ℤ → List ℕ → List ℕ → ℕ → List Entry
entries_at boxes begins borders count = map (entry_for boxes begins borders) (numbers_from 0 count)

-- the entry of the yard behind so many, its record beginning there
abbrev pub entry_with : List ℤ → List ℕ → ℕ → ℕ → Entry
entry_with boxes borders count begin = entry_at (bounds_at boxes count) (record { «record» = begin; border = get_or borders count 0 })

-- ---- what the inner functions say of each other
-- a yard's lower latitude, counted from the south
abbrev pub south_at : List ℤ → ℕ → ℕ
south_at boxes yard = from_south (get_or boxes (4 * yard) (pos 0))

-- a yard and one more, 0 for none
unfoldable pub numbered : Option ℕ → ℕ
numbered none = 0
numbered (some yard) = suc yard

-- of the first yards in the order of the table, the last that is not above a latitude, and the first that is above it
abbrev pub low_to : List ℤ → ℕ → ℕ → Option ℕ
low_to boxes south count = low_in (south_at boxes) south none (sorted_by (south_at boxes) (numbers_from 0 count))

abbrev pub high_to : List ℤ → ℕ → ℕ → Option ℕ
high_to boxes south count = high_in (south_at boxes) south (sorted_by (south_at boxes) (numbers_from 0 count))

-- the neighbours of the yard behind so many
pub record Nears (boxes : List ℤ) (count low high : ℕ) : Type 0 where
  pub low_is : low ≡ numbered (low_to boxes (south_at boxes count) count)
  pub high_is : high ≡ numbered (high_to boxes (south_at boxes count) count)
  pub low_there : low ≤ count
  pub high_there : high ≤ count

-- where the record and the border of a neighbour begin; 0 where there is none
unfoldable pub places_of : List ℕ → List ℕ → ℕ → Places
places_of begins borders zero = record { «record» = 0; border = 0 }
places_of begins borders (suc yard) = record { «record» = get_or begins yard 0; border = get_or borders yard 0 }

-- the bytes of a neighbour behind an entry with these places; none where there is no neighbour
unfoldable pub size_behind : List ℤ → List ℕ → List ℕ → Places → ℕ → ℕ
size_behind boxes begins borders from zero = 0
size_behind boxes begins borders from (suc yard) = length (entry_bytes from.«record» from.border (entry_for boxes begins borders yard))

-- lists that are long enough for so many yards and one more
pub record Reaching (boxes begins borders count : ℕ) : Type 0 where
  pub few : count < 4096
  pub boxed : 4 * count + 4 ≤ boxes
  pub begun : count ≤ begins
  pub bordered : count < borders
