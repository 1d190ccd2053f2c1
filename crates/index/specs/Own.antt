-- When words are the index that building gives for a file, whoever wrote them.
use Rattle.std.specs.Prelude.{if◌then◌else◌, ◌&&◌, ◌∷◌}
use Rattle.numbers.specs.{Prelude.{ℕ, eqb, length, Bool, true, false, List, []}, Reply.{Reply, given, refused, plain, demand}}
use Rattle.index.specs.Index.{indexed_of}

-- the same words, and as many
unfoldable pub is_same : List ℕ → List ℕ → Bool
is_same [] [] = true
is_same (x ∷ xs) (y ∷ ys) = eqb x y && is_same xs ys
is_same (x ∷ xs) [] = false
is_same [] (y ∷ ys) = false

-- words held against what building leaves in as many: 36 where they differ, or are too few (35); any other refusal of building stays
unfoldable pub held_against : List ℕ → Reply ℕ → List ℕ → Reply (Unit {0})
held_against words (given used) built = demand (is_same words built) (plain 36)
held_against words (refused why) built = refused (if eqb why.number 35 then plain 36 else why)

-- the words are those that building, lent as many, leaves for this file: its index, and zeros behind it
unfoldable pub is_index_of : List ℕ → List ℕ → Reply (Unit {0})
is_index_of file words = held_against words (indexed_of file (length words)).reply (indexed_of file (length words)).words
