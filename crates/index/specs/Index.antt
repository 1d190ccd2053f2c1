-- The index of a file, as words: head, where each tile's list begins, a record for each row, the file's bytes up to the metadata, and the lists.
use Rattle.std.specs.Prelude.{◌+◌, ◌*◌, ◌/◌, ◌^◌, ◌&&◌, ◌∷◌, ◌++◌, if◌then◌else◌}
use Rattle.numbers.specs.Prelude.{ℕ, zero, suc, ltb, leb, length, take, get_or, Bool, List, []}
use Rattle.numbers.specs.{Lists.{zeros, padded}, Reply.{Reply, given, refused, plain, demand, ◌>>=◌, ◌>>◌}}
use Rattle.table.specs.{Find.{is_precision}, declared.{rows.Row.{Row}, table.Bounds.{Bounds}}}
use Rattle.header.specs.{Header.{head_of}, declared.header.Head.{Head}}
use Rattle.index.specs.{Table.{table_of}, Tiles.{word_of, tile_at, meets}, declared.tiles.Tile.{Tile}}

-- ---- records
-- a box: lower latitude, lower longitude, upper latitude, upper longitude
abbrev pub box_words : Bounds → List ℕ
box_words b = word_of b.min_lat.0 ∷ word_of b.min_lon.0 ∷ word_of b.max_lat.0 ∷ word_of b.max_lon.0 ∷ []

-- where the entry stands, its sums, and its box
abbrev pub record_of : Row → List ℕ
record_of r = r.place ∷ r.metadata ∷ r.polygon ∷ box_words r.bounds

unfoldable pub records_of : List Row → List ℕ
records_of [] = []
records_of (r ∷ rows) = record_of r ++ records_of rows

-- ---- kept bytes
-- four bytes as a word, the low one first; behind the last byte there are zeros
abbrev pub four_at : List ℕ → ℕ → ℕ
four_at bytes i = get_or bytes i 0 + get_or bytes (i + 1) 0 * 2 ^ 8 + get_or bytes (i + 2) 0 * 2 ^ 16 + get_or bytes (i + 3) 0 * 2 ^ 24

-- so many words from a place on
unfoldable pub packed_from : List ℕ → ℕ → ℕ → List ℕ
packed_from bytes zero i = []
packed_from bytes (suc more) i = four_at bytes i ∷ packed_from bytes more (i + 4)

-- how many words so many bytes take
abbrev pub words_for : ℕ → ℕ
words_for size = (size + 3) / 4

-- the first bytes of a file
abbrev pub kept_of : List ℕ → ℕ → List ℕ
kept_of file size = packed_from (take size file) (words_for size) 0

-- ---- lists
-- the rows whose box meets a tile, by number, rising
unfoldable pub list_from : Tile → ℕ → List Row → List ℕ
list_from tile k [] = []
list_from tile k (r ∷ rows) =
    if meets tile (word_of r.bounds.min_lat.0) (word_of r.bounds.min_lon.0) (word_of r.bounds.max_lat.0) (word_of r.bounds.max_lon.0)
    then k ∷ list_from tile (k + 1) rows
    else list_from tile (k + 1) rows

abbrev pub list_of : ℕ → List Row → ℕ → List ℕ
list_of precision rows t = list_from (tile_at precision t) 0 rows

-- of so many tiles, from one on
unfoldable pub lists_from : ℕ → List Row → ℕ → ℕ → List (List ℕ)
lists_from precision rows zero t = []
lists_from precision rows (suc more) t = list_of precision rows t ∷ lists_from precision rows more (t + 1)

-- one after the other
unfoldable pub joined : List (List ℕ) → List ℕ
joined [] = []
joined (list ∷ lists) = list ++ joined lists

-- where each begins, the first at a place, and where the last ends
unfoldable pub starts_from : ℕ → List (List ℕ) → List ℕ
starts_from at [] = at ∷ []
starts_from at (list ∷ lists) = at ∷ starts_from (at + length list) lists

abbrev pub tiles : ℕ
tiles = 2048

-- three words and the places of the lists stand before the records
abbrev pub records_at : ℕ
records_at = 2052

abbrev pub lists_at : ℕ → ℕ → ℕ
lists_at rows size = records_at + 7 * rows + words_for size

-- ---- all of it
unfoldable pub index_of : List ℕ → Head → List Row → List ℕ
index_of file head rows =
    let size = head.sections.metadata in
    let lists = lists_from head.preamble.precision rows tiles 0 in
    (length file ∷ size ∷ length rows ∷ []) ++ (starts_from (lists_at (length rows) size) lists ++ (records_of rows ++ (kept_of file size ++ joined lists)))

-- opening's refusals, 16, 34, and 35 last
abbrev pub has_room : ℕ → ℕ → Bool
has_room room used = leb used room && ltb used (2 ^ 32)

-- the words that its rows give for a file: an index's, or an atlas's
module _ (words_of : List ℕ → Head → List Row → List ℕ) (file : List ℕ) where
  unfoldable pub built_with : Head → ℕ → Reply (List ℕ)
  built_with head room = do
    demand (is_precision head.preamble.precision) (plain 16)
    rows ← table_of file head
    demand (has_room room (length (words_of file head rows))) (plain 35)
    given (words_of file head rows)

  unfoldable pub built_in : ℕ → Reply (List ℕ)
  built_in room = head_of file >>= λ head. built_with head room

abbrev pub index_with : List ℕ → Head → ℕ → Reply (List ℕ)
index_with = built_with index_of

abbrev pub index_in : List ℕ → ℕ → Reply (List ℕ)
index_in = built_in index_of

-- how many words are used, and all lent words: zeros behind the index, and all zeros where it is refused
pub record Indexed : Type 0 where
  pub reply : Reply ℕ
  pub words : List ℕ

abbrev pub indexed : Reply ℕ → List ℕ → Indexed
indexed reply words = record { reply = reply; words = words }

unfoldable pub indexed_by : ℕ → Reply (List ℕ) → Indexed
indexed_by n (given words) = indexed (given (length words)) (padded n words)
indexed_by n (refused why) = indexed (refused why) (zeros n)

unfoldable pub indexed_of : List ℕ → ℕ → Indexed
indexed_of file n = indexed_by n (index_in file n)
