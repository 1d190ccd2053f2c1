-- The atlas of a file, as document 04's A-1 has it with one level of groups and without boxes over lists: the words of the index, the length of all words, for each entry where its
-- border's marks stand, and the marks.
use Rattle.std.specs.Prelude.{◌+◌, ◌%◌, ◌^◌, ◌∷◌, ◌++◌}
use Rattle.numbers.specs.{Prelude.{ℕ, length, Bool, false, List, []}, Reply.{Reply, given, refused, plain, demand}}
use Rattle.header.specs.declared.header.Head.{Head}
use Rattle.index.specs.{Index.{joined, index_of, built_with, built_in, Indexed, indexed_by}, Own.{is_same}}
use Rattle.marks.specs.Marks.{low, marks_at}
use Rattle.table.specs.{MarkedRows.{encoding_in}, declared.rows.Row.{Row}}

-- the marks of the border at a place of the data
abbrev pub marks_for : List ℕ → Head → ℕ → List ℕ
marks_for file head polygon = marks_at file (encoding_in head) ((head.sections.«data» + polygon) % 2 ^ 32)

-- of each row's border, in the table's order
unfoldable pub marks_in : List ℕ → Head → List Row → List (List ℕ)
marks_in file head [] = []
marks_in file head (r ∷ rows) = marks_for file head r.polygon ∷ marks_in file head rows

-- an entry's word: where its border's marks stand, 0 if it has none
unfoldable pub entry_of : ℕ → List ℕ → ℕ
entry_of at [] = 0
entry_of at (x ∷ xs) = low at

-- those of all, with the first marks at a place
unfoldable pub entries_from : ℕ → List (List ℕ) → List ℕ
entries_from at [] = []
entries_from at (list ∷ lists) = entry_of at list ∷ entries_from (at + length list) lists

-- entries and marks; a place is counted from the first entry on
abbrev pub beside_of : List (List ℕ) → List ℕ
beside_of lists = entries_from (length lists) lists ++ joined lists

-- behind the index, with the length of all words before them
abbrev pub whole_of : List ℕ → List ℕ → List ℕ
whole_of index beside = index ++ (low (length index + 1 + length beside) ∷ beside)

-- all words
unfoldable pub atlas_of : List ℕ → Head → List Row → List ℕ
atlas_of file head rows = whole_of (index_of file head rows) (beside_of (marks_in file head rows))

-- opening's refusals, 16, 34, and 35 last, as of the index
abbrev pub atlas_with : List ℕ → Head → ℕ → Reply (List ℕ)
atlas_with = built_with atlas_of

abbrev pub atlas_in : List ℕ → ℕ → Reply (List ℕ)
atlas_in = built_in atlas_of

-- how many words are used, and all lent words: zeros behind the atlas, and all zeros where it is refused
unfoldable pub atlas_made : List ℕ → ℕ → Indexed
atlas_made file n = indexed_by n (atlas_in file n)

-- building gave, and left these words
unfoldable pub is_made : List ℕ → Reply ℕ → List ℕ → Bool
is_made words (given used) made = is_same words made
is_made words (refused why) made = false

-- the words are those that building, lent as many, leaves for this file; else 36
unfoldable pub is_atlas_of : List ℕ → List ℕ → Reply (Unit {0})
is_atlas_of file words = demand (is_made words (atlas_made file (length words)).reply (atlas_made file (length words)).words) (plain 36)
