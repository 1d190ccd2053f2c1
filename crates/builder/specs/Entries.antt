-- The table: "boxes from the borders, entries sorted by lower latitude and then by order of arrival, polygon deltas modulo 2^32".
use Rattle.std.specs.Prelude.{if◌then◌else◌, ◌+◌, ◌-◌, ◌*◌, ◌%◌, ◌^◌, ◌-ℤ◌, ◌∷◌, ◌++◌}
use Rattle.numbers.specs.{Prelude.{ℕ, suc, ℤ, pos, negsuc, get_or, lt_z, List, []}, Spelling.{varint_of, signed_form}}
use Rattle.builder.specs.declared.{boxes.Bounds.{Bounds}, entry.Places.{Places}}
use Rattle.layout.specs.Order.{sorted_by}

-- the lesser and the greater of two numbers
unfoldable pub lesser : ℤ → ℤ → ℤ
lesser a b = if lt_z b a then b else a

unfoldable pub greater : ℤ → ℤ → ℤ
greater a b = if lt_z a b then b else a

-- of some numbers, by one of the two
unfoldable pub best_by : (ℤ → ℤ → ℤ) → ℤ → List ℤ → ℤ
best_by best z [] = z
best_by best z (x ∷ xs) = best_by best (best z x) xs

-- of a list; none is empty, since a border has points
unfoldable pub farthest_of : (ℤ → ℤ → ℤ) → List ℤ → ℤ
farthest_of best [] = pos 0
farthest_of best (z ∷ zs) = best_by best z zs

abbrev pub lowest_of : List ℤ → ℤ
lowest_of = farthest_of lesser

abbrev pub highest_of : List ℤ → ℤ
highest_of = farthest_of greater

abbrev pub box_of : List ℤ → List ℤ → Bounds
box_of lats lons = record { south = lowest_of lats; west = lowest_of lons; north = highest_of lats; east = highest_of lons }

-- an entry: the box, where the yard's record begins in the metadata section, and where its border does in the data section
pub record Entry : Type 0 where
  pub bounds : Bounds
  pub record' : ℕ
  pub border : ℕ

abbrev pub entry_at : Bounds → Places → Entry
entry_at bounds places = record { bounds = bounds; record' = places.«record»; border = places.border }

-- the box as four signed numbers
unfoldable pub box_bytes : Bounds → List ℕ
box_bytes b = varint_of (signed_form b.south) ++ (varint_of (signed_form b.west) ++ (varint_of (signed_form b.north) ++ varint_of (signed_form b.east)))

-- after an entry with these two places: the steps from it, the first signed, the second modulo 2 ^ 32
unfoldable pub entry_bytes : ℕ → ℕ → Entry → List ℕ
entry_bytes record' border e =
    box_bytes e.bounds ++ (varint_of (signed_form (pos e.record' -ℤ pos record')) ++ varint_of ((e.border + 2 ^ 32 - border) % 2 ^ 32))

unfoldable pub table_from : ℕ → ℕ → List Entry → List ℕ
table_from record' border [] = []
table_from record' border (e ∷ es) = entry_bytes record' border e ++ table_from e.record' e.border es

-- a latitude counted from the south, never below zero
unfoldable pub from_south : ℤ → ℕ
from_south (pos n) = n + 2 ^ 31
from_south (negsuc n) = 2 ^ 31 - suc n

unfoldable pub table_of : List Entry → List ℕ
table_of entries = table_from 0 0 (sorted_by (λ e. from_south e.bounds.south) entries)

-- ---- entries as they are kept while a file is built: four numbers and two words a yard, and sorted words whose lower halves are yards
abbrev pub bounds_at : List ℤ → ℕ → Bounds
bounds_at boxes yard = record {
  south = get_or boxes (4 * yard) (pos 0);
  west = get_or boxes (4 * yard + 1) (pos 0);
  north = get_or boxes (4 * yard + 2) (pos 0);
  east = get_or boxes (4 * yard + 3) (pos 0);
}

abbrev pub places_at : List ℕ → ℕ → Places
places_at places yard = record { «record» = get_or places (2 * yard) 0; border = get_or places (2 * yard + 1) 0 }

unfoldable pub entry_of_word : List ℤ → List ℕ → ℕ → Entry
entry_of_word boxes places word = entry_at (bounds_at boxes (word % 2 ^ 32)) (places_at places (word % 2 ^ 32))

-- a yard's word: its lower latitude counted from the south, and the yard
unfoldable pub word_of_yard : List ℤ → ℕ → ℕ
word_of_yard boxes yard = from_south (bounds_at boxes (yard % 2 ^ 32)).south * 2 ^ 32 + yard % 2 ^ 32
