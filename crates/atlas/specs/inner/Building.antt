-- What the functions that build an atlas or hold words against one say of each other.
use Rattle.std.specs.Prelude.{if◌then◌else◌, ◌+◌, ◌*◌, ◌^◌, ◌&&◌, ◌∷◌, ◌≡◌}
use Rattle.numbers.specs.{Prelude.{ℕ, zero, suc, eqb, ltb, leb, length, get_or, set, sets, Bool, List, []}, Reply.{Reply, plain, demand, ◌>>◌}}
use Rattle.header.specs.declared.header.Head.{Head}
use Rattle.index.specs.{Index.{records_at}, Tied.{word_at}, inner.Own.{is_word, is_at, stands_from, is_empty_from}}
use Rattle.marks.specs.Marks.{low, groups_of}
use Rattle.atlas.specs.Atlas.{marks_for, beside_of}

-- the marks of the border of record k in the words
abbrev pub marks_at_record : List ℕ → Head → List ℕ → ℕ → List ℕ
marks_at_record file head words k = marks_for file head (get_or words (records_at + 7 * k + 2) 0)

-- of so many records from a number on
unfoldable pub marks_by : List ℕ → Head → List ℕ → ℕ → ℕ → List (List ℕ)
marks_by file head words zero k = []
marks_by file head words (suc more) k = marks_at_record file head words k ∷ marks_by file head words more (k + 1)

-- what stands behind an index that ends at a place
abbrev pub behind_by : List ℕ → ℕ → List ℕ
behind_by beside used = low (used + 1 + length beside) ∷ beside

abbrev pub behind_of : List ℕ → Head → List ℕ → ℕ → List ℕ
behind_of file head words used = behind_by (beside_of (marks_by file head words (word_at words 2) 0)) used

-- how many words the marks of so many stretches and of their groups have
abbrev pub size_of : ℕ → ℕ
size_of count = if eqb count 0 then 0 else (1 + 11 * count + 11 * groups_of count)

-- the word of an entry whose marks go from one place to another
abbrev pub entry_for : ℕ → ℕ → ℕ
entry_for at next = if eqb at next then 0 else low at

-- one entry's word and marks were stored
pub record PutOne (before : List ℕ) (place at : ℕ) (word : ℕ) (list after : List ℕ) (next : ℕ) : Type 0 where
  pub place_after : next ≡ at + length list
  pub stored : after ≡ set (sets before at list) place word

-- one entry's word and marks stand; the place behind the marks, or 36
abbrev pub stands_one : List ℕ → ℕ → ℕ → ℕ → List ℕ → Reply ℕ
stands_one words place at word list = demand (is_word words place word) (plain 36) >> stands_from words at list

-- what stands behind the index is all there is
unfoldable pub is_behind : List ℕ → List ℕ → ℕ → Bool
is_behind words behind used = is_at words used behind && (ltb (used + length behind) (2 ^ 32) && is_empty_from words (used + length behind))

-- where the index of an atlas ends, 0 where the words are too few
unfoldable pub end_of : List ℕ → ℕ
end_of words = if leb records_at (length words) then (if leb (word_at words 2051) (length words) then word_at words 2051 else 0) else 0
