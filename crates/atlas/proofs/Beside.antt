-- What stands where beside the index: the words of the entries, and the marks. Assumes nothing.
use Rattle.numbers.proofs.Prelude.{ℕ, zero, suc, ◌+◌, ◌*◌, ◌≤◌, ◌<◌, length, take, drop, get_or, length-append, List·getD-append, get_or-take, get_or-drop, get_or-append-add, List, [], ◌∷◌, ◌++◌}
use Rattle.numbers.proofs.Prelude.{append_assoc, ◌≡◌, refl, sym, ap, ◌∙◌, arith}
use Rattle.header.specs.declared.header.Head.{Head}
use Rattle.index.{proofs.{LaidOut.{joined_split, records_there}, Whole.{holds_rest}}, specs.{Index.{record_of, records_of, joined, records_at, index_of}, Tied.{word_at}}}
use Rattle.marks.proofs.ReadBack.{At}
use Rattle.table.specs.{GivenRows.{record_word}, declared.rows.Row.{Row}}
use Rattle.atlas.specs.{Atlas.{marks_for, marks_in, entry_of, entries_from, beside_of}, inner.Building.{marks_by}}
use Rattle.index.proofs.BuiltIsTied as B
use Rattle.index.proofs.Whole as W

pub entries_length : (at : ℕ) (lists : List (List ℕ)) → length (entries_from at lists) ≡ length lists
unfolding entries_from
entries_length at [] = refl
entries_length at (list ∷ lists) = ap suc (entries_length (at + length list) lists)

-- an entry's word
pub entry_at : (at : ℕ) (lists : List (List ℕ)) (more : List ℕ) (k : ℕ) → k < length lists
    → get_or (entries_from at lists ++ more) k 0 ≡ entry_of (at + length (joined (take k lists))) (get_or lists k [])
unfolding entries_from joined
entry_at at [] more k h = absurd (omega (arith, h))
entry_at at (list ∷ lists) more zero h = let e : at ≡ at + 0 = omega arith in ap (λ (j : ℕ). entry_of j list) e
entry_at at (list ∷ lists) more (suc k) h =
    let e : at + length list + length (joined (take k lists)) ≡ at + length (list ++ joined (take k lists)) = omega (arith, length-append list (joined (take k lists))) in
    entry_at (at + length list) lists more k (omega (arith, h)) ∙ ap (λ (j : ℕ). entry_of j (get_or lists k [])) e

regroup : (a b c d e : List ℕ) → (a ++ (b ++ (c ++ d))) ++ e ≡ (a ++ b) ++ (c ++ (d ++ e))
regroup a b c d e =
    append_assoc a (b ++ (c ++ d)) e ∙ ap (λ (x : List ℕ). a ++ x) (append_assoc b (c ++ d) e ∙ ap (λ (x : List ℕ). b ++ x) (append_assoc c d e)) ∙ sym (append_assoc a b (c ++ (d ++ e)))

-- ---- the marks of one of these lists, with something behind all
module _ (lists : List (List ℕ)) (tail : List ℕ) (k : ℕ) (h : k < length lists) where
  abbrev list : List ℕ
  list = get_or lists k []

  abbrev pub place_of : ℕ
  place_of = length lists + length (joined (take k lists))

  abbrev front : List ℕ
  front = entries_from (length lists) lists ++ joined (take k lists)

  abbrev behind : List ℕ
  behind = joined (drop (suc k) lists) ++ tail

  shape : beside_of lists ++ tail ≡ front ++ (list ++ behind)
  shape =
      ap (λ (j : List ℕ). (entries_from (length lists) lists ++ j) ++ tail) (joined_split lists k h)
      ∙ regroup (entries_from (length lists) lists) (joined (take k lists)) list (joined (drop (suc k) lists)) tail

  front_long : length front ≡ place_of
  front_long = omega (arith, length-append (entries_from (length lists) lists) (joined (take k lists)), entries_length (length lists) lists)

  pub marks_stand : At (beside_of lists ++ tail) place_of list
  marks_stand i l = (λ j. get_or (shape j) (sym front_long j + i) 0) ∙ get_or-append-add front (list ++ behind) i 0 ∙ List·getD-append list behind 0 i l

  pub marks_inside : place_of + length list ≤ length (beside_of lists ++ tail)
  marks_inside = omega (arith, ap length shape, length-append front (list ++ behind), length-append list behind, front_long)

  pub entry_there : get_or (beside_of lists ++ tail) k 0 ≡ entry_of place_of list
  entry_there = ap (λ (w : List ℕ). get_or w k 0) (append_assoc (entries_from (length lists) lists) (joined lists) tail) ∙ entry_at (length lists) lists (joined lists ++ tail) k h

-- ---- those of a table
module _ (file : List ℕ) (head : Head) where
  pub marks_length : (rows : List Row) → length (marks_in file head rows) ≡ length rows
  unfolding marks_in
  marks_length [] = refl
  marks_length (r ∷ rows) = ap suc (marks_length rows)

  pub marks_of : (rows : List Row) (k : ℕ) → k < length rows → get_or (marks_in file head rows) k [] ≡ marks_for file head (record_word (records_of rows) k 2)
  unfolding marks_in records_of
  marks_of [] k h = absurd (omega (arith, h))
  marks_of (r ∷ rows) zero h = refl
  marks_of (r ∷ rows) (suc k) h = let e : 7 * suc k + 2 ≡ 7 + (7 * k + 2) = omega arith in
      let same : get_or (record_of r ++ records_of rows) (7 * suc k + 2) 0 ≡ get_or (records_of rows) (7 * k + 2) 0 = ap (λ (j : ℕ). get_or (record_of r ++ records_of rows) j 0) e
      ∙ get_or-append-add (record_of r) (records_of rows) (7 * k + 2) 0 in marks_of rows k (omega (arith, h)) ∙ ap (marks_for file head) (sym same)

  -- by records that stand in the words
  marks_read : (words : List ℕ) (rows : List Row) (k : ℕ) → W.Holds words rows k → marks_by file head words (length rows) k ≡ marks_in file head rows
  unfolding marks_by marks_in records_of
  marks_read words [] k h = refl
  marks_read words (r ∷ rows) k h = λ i. marks_for file head (h 2 (omega arith) i) ∷ marks_read words rows (k + 1) (holds_rest words r rows k h) i

  -- ---- words that begin with the index
  module _ (rows : List Row) (rest : List ℕ) where
    abbrev pub words : List ℕ
    words = index_of file head rows ++ rest

    -- the index ends where its last list does
    pub index_ends : word_at words 2051 ≡ length (index_of file head rows)
    index_ends = omega (arith, B.last file head rows rest, B.long file head rows rest, length-append (index_of file head rows) rest)

    pub index_long : records_at + 7 * length rows ≤ length (index_of file head rows)
    index_long = omega (arith, B.long file head rows rest, length-append (index_of file head rows) rest)

    pub rows_there : word_at words 2 ≡ length rows
    rows_there = B.third file head rows rest

    records_stand : W.Holds words rows 0
    records_stand i l = let e : records_at + 7 * 0 + i ≡ records_at + i = omega arith in
        ap (λ (k : ℕ). get_or words k 0) e ∙ sym (get_or-drop records_at words i 0) ∙ sym (get_or-take (7 * word_at words 2) (drop records_at words) i 0 (omega (arith, l, rows_there)))
        ∙ ap (λ (xs : List ℕ). get_or xs i 0) (records_there file head rows rest)

    pub marks_by_words : marks_by file head words (word_at words 2) 0 ≡ marks_in file head rows
    marks_by_words = ap (λ (n : ℕ). marks_by file head words n 0) rows_there ∙ marks_read words rows 0 records_stand
