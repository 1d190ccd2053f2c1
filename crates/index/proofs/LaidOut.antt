-- What stands where in the index of a file: its records, and the list of each tile. Assumes nothing.
use Rattle.numbers.proofs.Prelude.{ℕ, zero, suc, ◌+◌, ◌-◌, ◌*◌, ◌≤◌, ◌<◌, le-leb, length, take, drop, get_or, length-append, take_at, drop_at, take-length, get_or-append-add, drop-append_seam, true}
use Rattle.numbers.{proofs.Prelude.{List, [], ◌∷◌, ◌++◌, append_assoc, ◌≡◌, refl, sym, ap, ◌∙◌, arith}, specs.Reply.{given}}
use lib.Seq.{drop-append-add, split_at}
use Rattle.border.specs.declared.place.Point.{Point}
use Rattle.table.specs.{Find.{fix_of, is_precision}, declared.{location.Location.{Location}, rows.Row.{Row}}}
use Rattle.header.specs.declared.header.Head.{Head}
use Rattle.index.proofs.{Keeping.{packed_length}, Placing.{placed}, Sides.{row_few, column_few}, Tabling.{records_length}, Whole.{lists_length, starts_length}}
use Rattle.index.specs.{Index.{records_of, words_for, kept_of, list_of, lists_from, joined, starts_from, tiles, records_at}, Through.{start_of, is_inside, place_of, records_in, numbers_in}}
use Rattle.index.specs.{Tiles.{word_of, lift, tile_of}, declared.place.Place.{Place}}
use Rattle.index.proofs.BuiltIsTied as B

-- ---- lists one after the other
pub joined_append : (a b : List (List ℕ)) → joined (a ++ b) ≡ joined a ++ joined b
unfolding joined
joined_append [] b = refl
joined_append (list ∷ a) b = ap (λ (x : List ℕ). list ++ x) (joined_append a b) ∙ sym (append_assoc list (joined a) (joined b))

-- the first so many, one, and the rest
pub joined_split : (lists : List (List ℕ)) (t : ℕ) → t < length lists → joined lists ≡ joined (take t lists) ++ (get_or lists t [] ++ joined (drop (suc t) lists))
unfolding joined
joined_split lists t h = ap joined (split_at lists t [] h) ∙ joined_append (take t lists) (get_or lists t [] ∷ drop (suc t) lists)

joined_step : (lists : List (List ℕ)) (t : ℕ) → t < length lists → length (joined (take (t + 1) lists)) ≡ length (joined (take t lists)) + length (get_or lists t [])
unfolding joined
joined_step [] t h = absurd (omega arith)
joined_step (list ∷ lists) zero h = omega (arith, length-append list [])
joined_step (list ∷ lists) (suc t) h = let e : suc t + 1 ≡ suc (t + 1) = omega arith in
    ap (λ (k : ℕ). length (joined (take k (list ∷ lists)))) e ∙ length-append list (joined (take (t + 1) lists))
    ∙ omega (arith, joined_step lists t (omega (arith, h)), length-append list (joined (take t lists)))

joined_upto : (lists : List (List ℕ)) (t : ℕ) → length (joined (take t lists)) ≤ length (joined lists)
unfolding joined
joined_upto lists zero = omega arith
joined_upto [] (suc t) = omega arith
joined_upto (list ∷ lists) (suc t) = omega (arith, joined_upto lists t, length-append list (joined lists), length-append list (joined (take t lists)))

no_lists : (lists : List (List ℕ)) → length (joined (take 0 lists)) ≡ 0
unfolding joined
no_lists lists = refl

-- where each begins
starts_at : (at : ℕ) (lists : List (List ℕ)) (more : List ℕ) (t : ℕ) → t ≤ length lists → get_or (starts_from at lists ++ more) t 0 ≡ at + length (joined (take t lists))
unfolding starts_from joined
starts_at at [] more zero h = omega arith
starts_at at [] more (suc t) h = absurd (omega arith)
starts_at at (list ∷ lists) more zero h = omega arith
starts_at at (list ∷ lists) more (suc t) h = starts_at (at + length list) lists more t (omega (arith, h)) ∙ omega (arith, length-append list (joined (take t lists)))

-- the list of a tile among all
lists_at : (precision : ℕ) (rows : List Row) (more t i : ℕ) → i < more → get_or (lists_from precision rows more t) i [] ≡ list_of precision rows (t + i)
unfolding lists_from
lists_at precision rows zero t i h = absurd (omega arith)
lists_at precision rows (suc more) t zero h = let e : t ≡ t + 0 = omega arith in ap (list_of precision rows) e
lists_at precision rows (suc more) t (suc i) h = let e : t + 1 + i ≡ t + suc i = omega arith in lists_at precision rows more (t + 1) i (omega (arith, h)) ∙ ap (list_of precision rows) e

slice_there : (a b c d e : List ℕ) (from size : ℕ) → length a + length b ≡ from → length c ≡ size → take size (drop from (a ++ ((b ++ (c ++ d)) ++ e))) ≡ c
slice_there a b c d e from size f s =
    let behind : (b ++ (c ++ d)) ++ e ≡ b ++ (c ++ (d ++ e)) = append_assoc b (c ++ d) e ∙ ap (λ (x : List ℕ). b ++ x) (append_assoc c d e) in
    ap (λ (k : ℕ). take size (drop k (a ++ ((b ++ (c ++ d)) ++ e)))) (sym f) ∙ ap (take size) (drop-append-add a ((b ++ (c ++ d)) ++ e) (length b)
    ∙ ap (drop (length b)) behind ∙ drop-append_seam b (c ++ (d ++ e))) ∙ take_at c (d ++ e) size s

module _ (file : List ℕ) (head : Head) (rows : List Row) (rest : List ℕ) where
  abbrev words : List ℕ
  words = B.words file head rows rest

  abbrev lists : List (List ℕ)
  lists = B.lists file head rows rest

  abbrev begin : ℕ
  begin = B.begin file head rows rest

  abbrev three : List ℕ
  three = B.three file head rows rest

  abbrev starts : List ℕ
  starts = B.starts file head rows rest

  abbrev behind : List ℕ
  behind = B.behind file head rows rest

  abbrev kept : List ℕ
  kept = kept_of file head.sections.metadata

  many : length lists ≡ tiles
  many = lists_length head.preamble.precision rows tiles 0

  -- the records
  pub records_there : records_in words ≡ records_of rows
  records_there = let front : length (three ++ starts) ≡ records_at = omega (arith, starts_length begin lists, many) in
      let cut : drop records_at words ≡ behind = ap (drop records_at) (B.flat file head rows rest ∙ sym (append_assoc three starts behind)) ∙ drop_at (three ++ starts) behind records_at front in
      (λ i. take (7 * B.third file head rows rest i) (cut i)) ∙ take_at (records_of rows) (kept ++ (joined lists ++ rest)) (7 * length rows) (records_length rows)

  -- where each list begins
  pub start_there : (t : ℕ) → t ≤ tiles → start_of words t ≡ begin + length (joined (take t lists))
  start_there t h =
      ap (λ (w : List ℕ). get_or w (3 + t) 0) (B.flat file head rows rest) ∙ get_or-append-add three (starts ++ behind) t 0 ∙ starts_at begin lists behind t (omega (arith, h, many))

  abbrev pub place_at : ℕ → Place
  place_at t = record { from = start_of words t; end = start_of words (t + 1) }

  module _ (t : ℕ) (few : t < tiles) where
    pub inside_there : is_inside words t ≡ true
    inside_there = let first = start_there 0 (omega arith) in let this = start_there t (omega (arith, few)) in
        let next = start_there (t + 1) (omega (arith, few)) in let last = start_there tiles (omega arith) in
        let none : length (joined (take 0 lists)) ≡ 0 = no_lists lists in let step = joined_step lists t (omega (arith, few, many)) in
        let upto = joined_upto lists (t + 1) in let all = all_lists in
        rw (
          le-leb (start_of words 0) (start_of words t) (omega (arith, first, this, none)),
          le-leb (start_of words t) (start_of words (t + 1)) (omega (arith, this, next, step)),
          le-leb (start_of words (t + 1)) (start_of words tiles) (omega (arith, next, last, upto, all)),
        ) where
          all_lists : length (joined (take tiles lists)) ≡ length (joined lists)
          all_lists = ap (λ (ls : List (List ℕ)). length (joined ls)) (ap (λ (k : ℕ). take k lists) (sym many) ∙ take-length lists)

    -- the list of a tile
    pub list_there : numbers_in words (place_at t) ≡ list_of head.preamble.precision rows t
    list_there =
        let this = start_there t (omega (arith, few)) in
        let next = start_there (t + 1) (omega (arith, few)) in
        let step = joined_step lists t (omega (arith, few, many)) in
        let front = three ++ (starts ++ (records_of rows ++ kept)) in
        let long : length front ≡ begin =
        omega (
          arith,
          length-append starts (records_of rows ++ kept),
          length-append (records_of rows) kept,
          starts_length begin lists,
          many,
          records_length rows,
          packed_length (take head.sections.metadata file) (words_for head.sections.metadata) 0,
        ) in
        let shape : words ≡ front ++ (joined lists ++ rest) = B.flat file head rows rest ∙ regroup three starts (records_of rows) kept (joined lists ++ rest) in
        let split : joined lists ≡ joined (take t lists) ++ (get_or lists t [] ++ joined (drop (suc t) lists)) = joined_split lists t (omega (arith, few, many)) in
        ap (λ (w : List ℕ). take (start_of words (t + 1) - start_of words t) (drop (start_of words t) w)) (shape ∙ ap (λ (j : List ℕ). front ++ (j ++ rest)) split)
        ∙ slice_there front (joined (take t lists)) (get_or lists t []) (joined (drop (suc t) lists)) rest (start_of words t) (start_of words (t + 1) - start_of words t)
        (omega (arith, long, this)) (omega (arith, this, next, step))
        ∙ lists_at head.preamble.precision rows tiles 0 t few
        ∙ ap (list_of head.preamble.precision rows) from_none where
          from_none : 0 + t ≡ t
          from_none = omega arith

          regroup : (a b c d e : List ℕ) → a ++ (b ++ (c ++ (d ++ e))) ≡ (a ++ (b ++ (c ++ d))) ++ e
          regroup a b c d e =
              sym (append_assoc a (b ++ (c ++ d)) e ∙ ap (λ (x : List ℕ). a ++ x) (append_assoc b (c ++ d) e ∙ ap (λ (x : List ℕ). b ++ x) (append_assoc c d e)))

  tile_few : (precision : ℕ) (fix : Point) → tile_of precision fix < tiles
  tile_few precision fix = omega (arith, row_few precision (lift (word_of fix.lat.0)), column_few precision (lift (word_of fix.lon.0)))

  module _ (location : Location) where
    abbrev tile : ℕ
    tile = tile_of head.preamble.precision (fix_of location head.preamble.precision)

    -- the list of a location's tile stands there,
    pub list_stands : is_precision head.preamble.precision ≡ true → given (place_at tile) ≡ place_of (length file) head words location
    list_stands p = placed (length file) head words location p (B.headed file head rows rest) (inside_there tile (tile_few head.preamble.precision (fix_of location head.preamble.precision)))

    -- and is its list
    pub list_of_tile : numbers_in words (place_at tile) ≡ list_of head.preamble.precision rows tile
    list_of_tile = list_there tile (tile_few head.preamble.precision (fix_of location head.preamble.precision))
