-- The index as a whole: its lists are those of the rows, and its parts stand one after the other. Assumes nothing.
use Rattle.numbers.proofs.Prelude.{ℕ, zero, suc, ◌+◌, ◌*◌, ◌%◌, ◌^◌, ◌≤◌, ◌<◌, lt-ltb, le-leb, le-ltb, lt-leb, leb, length, take, get_or, set, length-append, sets, length-sets, get_or-append-add}
use Rattle.numbers.proofs.Prelude.{get_or-set_same, Bool, true, false, ◌&&◌, List, [], ◌∷◌, ◌++◌, map, append_assoc, ◌≡◌, refl, sym, ap, ◌∙◌, arith}
use Rattle.numbers.{proofs.{Lists.{sets_append}, Replies.{carried, onward, met, unmet}}, specs.{Answer.{if◌then◌else◌}, Reply.{given, refused, plain}, declared.refusal.Refusal.{Refusal}}}
use Rattle.table.specs.{Find.{is_precision}, declared.rows.Row.{Row}}
use Rattle.header.specs.declared.header.Head.{Head}
use Rattle.index.proofs.{Keeping.{packed_length}, Stores.{sets_before, read_below}, Tabling.{records_length}}
use Rattle.index.specs.{Index.{record_of, records_of, words_for, kept_of, list_from, lists_from, joined, starts_from, tiles, records_at, lists_at, index_of, has_room, built_with}, Table.{table_of}}
use Rattle.index.specs.{Tiles.{word_of, tile_at, meets}, declared.tiles.Tile.{Tile}, inner.Building.{is_met_in, list_in, lists_in, low}}
use mathlib.Core.Bool.{and-false}

-- ---- what was stored can be read
pub read_stored : (vs l : List ℕ) (i k d : ℕ) → k < length vs → i + length vs ≤ length l → get_or (sets l i vs) (i + k) d ≡ get_or vs k d
read_stored [] l i k d h room = absurd (omega arith)
read_stored (v ∷ vs) l i zero d h room = let e : i + 0 ≡ i = omega arith in
    ap (λ (j : ℕ). get_or (sets (set l i v) (suc i) vs) j d) e ∙ read_below vs (set l i v) (suc i) i d (omega arith) ∙ get_or-set_same l i v d (omega arith)
read_stored (v ∷ vs) l i (suc k) d h room = let e : i + suc k ≡ suc i + k = omega arith in let size = length-sets l i (v ∷ []) in
    ap (λ (j : ℕ). get_or (sets (set l i v) (suc i) vs) j d) e ∙ read_stored vs (set l i v) (suc i) k d (omega arith) (omega (arith, size))

-- ---- a tile's list by the records is that of the rows
module _ (words : List ℕ) where
  -- these rows' records stand from a number on
  abbrev pub Holds : List Row → ℕ → Type 0
  Holds rows k = (i : ℕ) → i < 7 * length rows → get_or words (records_at + 7 * k + i) 0 ≡ get_or (records_of rows) i 0

  pub holds_rest : (r : Row) (rows : List Row) (k : ℕ) → Holds (r ∷ rows) k → Holds rows (k + 1)
  unfolding records_of
  holds_rest r rows k h i l = let e : records_at + 7 * (k + 1) + i ≡ records_at + 7 * k + (7 + i) = omega arith in
      ap (λ (j : ℕ). get_or words j 0) e ∙ h (7 + i) (omega arith) ∙ get_or-append-add (record_of r) (records_of rows) i 0

  pub list_of_rows : (tile : Tile) (rows : List Row) (k : ℕ) → Holds rows k → list_in words tile (length rows) k ≡ list_from tile k rows
  unfolding list_in list_from records_of
  list_of_rows tile [] k h = refl
  list_of_rows tile (r ∷ rows) k h = go (list_of_rows tile rows (k + 1) (holds_rest r rows k h)) where
    same : is_met_in words tile k ≡ meets tile (word_of r.bounds.min_lat.0) (word_of r.bounds.min_lon.0) (word_of r.bounds.max_lat.0) (word_of r.bounds.max_lon.0)
    same = rw (h 3 (omega arith), h 4 (omega arith), h 5 (omega arith), h 6 (omega arith))

    go : list_in words tile (length rows) (k + 1) ≡ list_from tile (k + 1) rows → (if is_met_in words tile k then k ∷ list_in words tile (length rows)
        (k + 1) else list_in words tile (length rows) (k + 1)) ≡ (if meets tile (word_of r.bounds.min_lat.0) (word_of r.bounds.min_lon.0)
        (word_of r.bounds.max_lat.0) (word_of r.bounds.max_lon.0) then k ∷ list_from tile (k + 1) rows else list_from tile (k + 1) rows)
    go e = rw (same, e)

  pub lists_of_rows : (precision : ℕ) (rows : List Row) (more t : ℕ) → Holds rows 0 → lists_in words precision (length rows) more t ≡ lists_from precision rows more t
  unfolding lists_in lists_from
  lists_of_rows precision rows zero t h = refl
  lists_of_rows precision rows (suc more) t h = go (lists_of_rows precision rows more (t + 1) h) where
    go : lists_in words precision (length rows) more (t + 1) ≡ lists_from precision rows more (t + 1)
        → list_in words (tile_at precision t) (length rows) 0 ∷ lists_in words precision (length rows) more (t + 1) ≡ list_from (tile_at precision t) 0 rows ∷ lists_from precision rows more (t + 1)
    go e = rw (list_of_rows (tile_at precision t) rows 0 h, e)

-- ---- lengths
pub lists_length : (precision : ℕ) (rows : List Row) (more t : ℕ) → length (lists_from precision rows more t) ≡ more
unfolding lists_from
lists_length precision rows zero t = refl
lists_length precision rows (suc more) t = ap suc (lists_length precision rows more (t + 1))

pub starts_length : (at : ℕ) (lists : List (List ℕ)) → length (starts_from at lists) ≡ length lists + 1
unfolding starts_from
starts_length at [] = refl
starts_length at (list ∷ lists) = omega (arith, starts_length (at + length list) lists)

-- places that fit a word
pub starts_fit : (at : ℕ) (lists : List (List ℕ)) → at + length (joined lists) < 2 ^ 32 → map low (starts_from at lists) ≡ starts_from at lists
unfolding starts_from joined
starts_fit at [] h = let e : at % 2 ^ 32 ≡ at = omega arith in rw e
starts_fit at (list ∷ lists) h = go (starts_fit (at + length list) lists (omega (arith, length-append list (joined lists)))) where
  e : at % 2 ^ 32 ≡ at
  e = omega (arith, length-append list (joined lists))

  go : map low (starts_from (at + length list) lists) ≡ starts_from (at + length list) lists
      → (at % 2 ^ 32) ∷ map low (starts_from (at + length list) lists) ≡ at ∷ starts_from (at + length list) lists
  go s = rw (e, s)

-- ---- five parts that were stored in another order
pub laid : (z a b c d e : List ℕ) (k l : ℕ) → length a ≡ 3 → length b ≡ 2049 → k ≡ records_at + length c → l ≡ k + length d
    → sets (sets (sets (sets (sets z records_at c) k d) 0 a) l e) 3 b ≡ sets z 0 (a ++ (b ++ (c ++ (d ++ e))))
laid z a b c d e k l la lb lk ll = let cd = c ++ d in
    let joint : sets (sets z records_at c) k d ≡ sets z records_at cd = ap (λ (n : ℕ). sets (sets z records_at c) n d) lk ∙ sym (sets_append c d z records_at) in
    let first : sets (sets z records_at cd) 0 a ≡ sets (sets z 0 a) records_at cd = sets_before a cd z 0 records_at (omega (arith, la)) in
    let end : l ≡ records_at + length cd = omega (arith, ll, lk, length-append c d) in
    let last : sets (sets (sets z 0 a) records_at cd) l e ≡ sets (sets z 0 a) records_at (cd ++ e) = ap (λ (n : ℕ). sets (sets (sets z 0 a) records_at cd) n e) end
    ∙ sym (sets_append cd e (sets z 0 a) records_at) in
    let places : sets (sets (sets z 0 a) records_at (cd ++ e)) 3 b ≡ sets (sets (sets z 0 a) 3 b) records_at (cd ++ e) = sets_before b (cd ++ e) (sets z 0 a) 3 records_at (omega (arith, lb)) in
    let three : 3 ≡ 0 + length a = omega (arith, la) in
    let ab : sets (sets z 0 a) 3 b ≡ sets z 0 (a ++ b) = ap (λ (n : ℕ). sets (sets z 0 a) n b) three ∙ sym (sets_append a b z 0) in
    let head : records_at ≡ 0 + length (a ++ b) = omega (arith, la, lb, length-append a b) in
    let all : sets (sets z 0 (a ++ b)) records_at (cd ++ e) ≡ sets z 0 ((a ++ b) ++ (cd ++ e)) = ap (λ (n : ℕ). sets (sets z 0 (a ++ b)) n (cd ++ e)) head ∙ sym (sets_append (a ++ b) (cd ++ e) z 0) in
    let shape : (a ++ b) ++ (cd ++ e) ≡ a ++ (b ++ (c ++ (d ++ e))) = append_assoc a b (cd ++ e) ∙ ap (λ (x : List ℕ). a ++ (b ++ x)) (append_assoc c d e) in
    ap (λ (m : List ℕ). sets (sets (sets m 0 a) l e) 3 b) joint ∙ ap (λ (m : List ℕ). sets (sets m l e) 3 b) first ∙ ap (λ (m : List ℕ). sets m 3 b) last
    ∙ places ∙ ap (λ (m : List ℕ). sets m records_at (cd ++ e)) ab ∙ all ∙ ap (λ (x : List ℕ). sets z 0 x) shape

-- ---- how long an index is
module _ (file : List ℕ) (head : Head) (room : ℕ) (fine : is_precision head.preamble.precision ≡ true) {rows : List Row} (t : given rows ≡ table_of file head) where
  abbrev lists : List (List ℕ)
  lists = lists_from head.preamble.precision rows tiles 0

  abbrev begin : ℕ
  begin = lists_at (length rows) head.sections.metadata

  pub index_length : length (index_of file head rows) ≡ begin + length (joined lists)
  unfolding index_of
  index_length = let size = head.sections.metadata in let kept = kept_of file size in
      omega (
        arith,
        length-append (starts_from begin lists) (records_of rows ++ (kept ++ joined lists)),
        length-append (records_of rows) (kept ++ joined lists),
        length-append kept (joined lists),
        starts_length begin lists,
        lists_length head.preamble.precision rows tiles 0,
        records_length rows,
        packed_length (take size file) (words_for size) 0,
      )

-- ---- the reply of a building, whichever words it makes
module _ (words_of : List ℕ → Head → List Row → List ℕ) (file : List ℕ) (head : Head) (room : ℕ) where
  -- where the precision is bad
  pub bad_precision : is_precision head.preamble.precision ≡ false → refused (plain 16) ≡ built_with words_of file head room
  unfolding built_with
  bad_precision e = unmet e (plain 16) _

  module _ (fine : is_precision head.preamble.precision ≡ true) where
    pub bad_table : {why : Refusal} → refused why ≡ table_of file head → refused why ≡ built_with words_of file head room
    unfolding built_with
    bad_table t = carried t _ ∙ met fine (plain 16) _

    module _ {rows : List Row} (t : given rows ≡ table_of file head) where
      abbrev words : List ℕ
      words = words_of file head rows

      pub with_room : has_room room (length words) ≡ true → given words ≡ built_with words_of file head room
      unfolding built_with
      with_room h = met h (plain 35) _ ∙ onward t _ ∙ met fine (plain 16) _

      pub without : has_room room (length words) ≡ false → refused (plain 35) ≡ built_with words_of file head room
      unfolding built_with
      without h = unmet h (plain 35) _ ∙ onward t _ ∙ met fine (plain 16) _

      pub no_room : room < length words → refused (plain 35) ≡ built_with words_of file head room
      no_room h = without (rw (lt-leb _ _ h))

      pub too_large : 2 ^ 32 ≤ length words → refused (plain 35) ≡ built_with words_of file head room
      too_large h = without (ap (λ (t : Bool). leb (length words) room && t) (le-ltb _ _ h) ∙ and-false (leb (length words) room))

      pub fits_room : length words ≤ room → length words < 2 ^ 32 → given words ≡ built_with words_of file head room
      fits_room h k = with_room (rw (le-leb _ _ h, lt-ltb _ _ k))
