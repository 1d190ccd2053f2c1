-- The loops that hold words against an index. Assumes nothing.
use Rattle.numbers.proofs.Prelude.{ℕ, suc, ◌+◌, ◌-◌, ◌*◌, ◌^◌, ◌≤◌, ◌<◌, ℤ, length, Bool, true, false, ◌&&◌, List, [], ◌∷◌, ◌≡◌, refl, sym, ap, ◌∙◌, add-zero, arith}
use Rattle.numbers.{proofs.Replies.{carried, onward, met, unmet}, specs.{Answer.{found}, Lists.{zeros}, Reply.{Reply, given, refused, plain, demand, ◌>>=◌, ◌>>◌}, Varint.{reading_of}, declared.refusal.Refusal.{Refusal}}}
use Rattle.writer.specs.inner.Stored.{Stored}
use Rattle.table.specs.{Ordered.{lowest}, Rows.{after, row_by}, declared.rows.{Cursor.{Cursor}, Row.{Row}}}
use Rattle.index.proofs.{Listing.{list_met, list_not, list_done, list_few}, Standing.{at_append, sets_none}}
use Rattle.index.proofs.Tabling.{records_length, records_snoc, Tabling, tabling_starts, starts_done, tabling_next, next_done}
use Rattle.index.specs.{Index.{record_of, records_of, records_at, tiles}, Table.{is_next}, Tiles.{tile_at}, declared.tiles.Tile.{Tile}, inner.Building.{is_met_in, list_in, lists_in}}
use Rattle.index.specs.inner.Own.{is_word, is_at, stands_from, lists_stand, is_empty_from}

-- ---- one word
module _ (words : List ℕ) where
  stands_word : (at x : ℕ) (xs : List ℕ) → is_word words at x ≡ true → stands_from words at (x ∷ xs) ≡ stands_from words (at + 1) xs
  unfolding is_at
  stands_word at x xs e = let s : at + suc (length xs) ≡ at + 1 + length xs = omega arith in rw (e, s)

  stands_other : (at x : ℕ) (xs : List ℕ) → is_word words at x ≡ false → refused (plain 36) ≡ stands_from words at (x ∷ xs)
  unfolding is_at
  stands_other at x xs e = rw e

  stands_none : (at : ℕ) → given at ≡ stands_from words at []
  unfolding is_at
  stands_none at = ap given (sym (add-zero at))

  -- where words stand, the place behind them
  pub stands_place : (at : ℕ) (xs : List ℕ) {next : ℕ} → given next ≡ stands_from words at xs → (is_at words at xs ≡ true) × (next ≡ at + length xs)
  stands_place at xs {next} e = go (is_at words at xs) refl e where
    go : (t : Bool) → is_at words at xs ≡ t → given next ≡ (demand t (plain 36) >> given (at + length xs)) → (is_at words at xs ≡ true) × (next ≡ at + length xs)
    go true is e = (is, cc)
    go false is e = let z : ◌≡◌ {A = ℕ} 0 1 = cc in absurd (omega arith)

  -- ---- the loop over the records, for one tile's list
  module _ (tile : Tile) (n from : ℕ) where
    abbrev list : Reply ℕ
    list = stands_from words from (list_in words tile n 0)

    pub record Stepping (at k : ℕ) : Type 0 where
      pub within : k ≤ n
      pub few : at ≤ from + k
      pub same : list ≡ stands_from words at (list_in words tile (n - k) k)

    module _ {at k : ℕ} (g : Stepping at k) where
      pub stepping_ends : n ≤ k → given at ≡ list
      stepping_ends h = stands_none at ∙ sym (g.same ∙ ap (stands_from words at) (list_done words tile n k h))

      module _ (more : k < n) where
        pub stepping_not : is_met_in words tile k ≡ false → Stepping at (k + 1)
        stepping_not e = record { within = omega arith; few = omega (arith, g.few); same = g.same ∙ ap (stands_from words at) (list_not words tile n k more e) }

        module _ (e : is_met_in words tile k ≡ true) where
          listed : list ≡ stands_from words at (k ∷ list_in words tile (n - (k + 1)) (k + 1))
          listed = g.same ∙ ap (stands_from words at) (list_met words tile n k more e)

          pub stepping_word : is_word words at k ≡ true → Stepping (at + 1) (k + 1)
          stepping_word w = record { within = omega arith; few = omega (arith, g.few); same = listed ∙ stands_word at k (list_in words tile (n - (k + 1)) (k + 1)) w }

          pub stepping_other : is_word words at k ≡ false → refused (plain 36) ≡ list
          stepping_other w = stands_other at k (list_in words tile (n - (k + 1)) (k + 1)) w ∙ sym listed

  -- ---- the loop over the tiles
  module _ (precision n from : ℕ) where
    abbrev rest_at : ℕ → List (List ℕ)
    rest_at t = lists_in words precision n (tiles - t) t

    abbrev lists : Reply ℕ
    lists = lists_stand words 3 from (lists_in words precision n tiles 0)

    pub record Walking (at t : ℕ) : Type 0 where
      pub within : t ≤ tiles
      pub few : at ≤ from + 2 ^ 32 * t
      pub same : lists ≡ lists_stand words (3 + t) at (rest_at t)

    module _ {at t : ℕ} (g : Walking at t) where
      module _ (end : tiles ≤ t) where
        last : lists ≡ (demand (is_word words 2051 at) (plain 36) >> given at)
        unfolding lists_in lists_stand
        last = let z : tiles - t ≡ 0 = omega (arith, end) in let e : 3 + t ≡ 2051 = omega (arith, end, g.within) in
            g.same ∙ ap (λ (m : ℕ). lists_stand words (3 + t) at (lists_in words precision n m t)) z ∙ ap (λ (k : ℕ). demand (is_word words k at) (plain 36) >> given at) e

        pub walking_ends : is_word words 2051 at ≡ true → given at ≡ lists
        walking_ends w = sym (last ∙ rw w)

        pub walking_last : is_word words 2051 at ≡ false → refused (plain 36) ≡ lists
        walking_last w = sym (last ∙ rw w)

      module _ (more : t < tiles) where
        abbrev first : List ℕ
        first = list_in words (tile_at precision t) n 0

        turned : lists ≡ (demand (is_word words (3 + t) at) (plain 36) >> (stands_from words at first >>= λ next. lists_stand words (3 + t + 1) next (rest_at (t + 1))))
        unfolding lists_in lists_stand
        turned = let s : tiles - t ≡ suc (tiles - (t + 1)) = omega arith in g.same ∙ ap (λ (m : ℕ). lists_stand words (3 + t) at (lists_in words precision n m t)) s

        pub walking_other : is_word words (3 + t) at ≡ false → refused (plain 36) ≡ lists
        walking_other w = unmet w (plain 36) _ ∙ sym turned

        module _ (w : is_word words (3 + t) at ≡ true) where
          onto : lists ≡ (stands_from words at first >>= λ next. lists_stand words (3 + t + 1) next (rest_at (t + 1)))
          onto = turned ∙ sym (met w (plain 36) _)

          pub walking_list : {why : Refusal} → refused why ≡ stands_from words at first → refused why ≡ lists
          walking_list e = carried e _ ∙ sym onto

          pub walking_next : {next : ℕ} → n < 2 ^ 32 → given next ≡ stands_from words at first → Walking next (t + 1)
          walking_next {next} small e = let s : 3 + t + 1 ≡ 3 + (t + 1) = omega arith in let place = (stands_place at first e).1 in record {
            within = omega arith;
            few = omega (arith, g.few, place, list_few words (tile_at precision t) n 0, small);
            same = onto ∙ sym (onward e _) ∙ ap (λ (k : ℕ). lists_stand words k next (rest_at (t + 1))) s;
          }

  -- ---- the loop over the zeros
  module _ (from : ℕ) where
    abbrev pub Emptying : ℕ → Type 0
    Emptying at = is_empty_from words from ≡ is_empty_from words at

    module _ {at : ℕ} (g : Emptying at) where
      pub emptying_ends : length words ≤ at → true ≡ is_empty_from words from
      unfolding is_at
      emptying_ends h = let z : length words - at ≡ 0 = omega (arith, h) in sym (g ∙ ap (λ (k : ℕ). is_at words at (zeros k)) z)

      module _ (more : at < length words) where
        emptied : is_empty_from words from ≡ (is_word words at 0 && is_empty_from words (at + 1))
        unfolding is_at
        emptied = let s : length words - at ≡ suc (length words - (at + 1)) = omega (arith, more) in g ∙ ap (λ (k : ℕ). is_at words at (zeros k)) s

        pub emptying_next : is_word words at 0 ≡ true → Emptying (at + 1)
        emptying_next w = emptied ∙ rw w

        pub emptying_other : is_word words at 0 ≡ false → false ≡ is_empty_from words from
        emptying_other w = sym (emptied ∙ rw w)

-- ---- the loop over the table
module _ (strict : Bool) (file : List ℕ) (end : ℕ) (start : Cursor) (bottom : ℤ) (words : List ℕ) where
  -- as in building, with no words to store in, and with what is said of the records so far
  pub record Matching (at : Cursor) (floor : ℤ) (same : Bool) (n : ℕ) : Type 0 where
    pub tabling : Tabling strict file end start bottom [] [] at floor (records_at + 7 * n) n
    pub compared : same ≡ is_at words records_at (records_of tabling.done)

  pub matching_starts : Matching start bottom true 0
  unfolding is_at records_of
  matching_starts =
      record {
        tabling = tabling_starts strict file end start bottom [];
        compared = ap (λ (rows : List Row). is_at words records_at (records_of rows))
            (sym (starts_done strict file end start bottom []));
      }

  pub matching_next : {at : Cursor} {floor : ℤ} {same : Bool} {n : ℕ} (g : Matching at floor same n) (more : at.place < end) {r : Row} (e : found r ≡ row_by (reading_of strict file) at)
      {next : Cursor} → is_next end floor r ≡ true → next ≡ after r → {same' : Bool} → same' ≡ (same && is_at words (records_at + 7 * n) (record_of r)) → Matching next (lowest r) same' (n + 1)
  matching_next {n = n} g more {r} e is m {same'} s = let done = g.tabling.done in
      let nothing : Stored [] (records_at + 7 * n) (record_of r) [] (records_at + 7 * (n + 1)) = record { place_after = omega arith; stored = sets_none (record_of r) (records_at + 7 * n) } in
      let place : records_at + 7 * n ≡ records_at + length (records_of done) = omega (arith, g.tabling.counted, records_length done) in record {
        tabling = tabling_next strict file end start bottom [] g.tabling more e is m nothing;
        compared =
            s
            ∙ (λ i. g.compared i && is_at words (place i) (record_of r))
            ∙ sym (at_append words records_at (records_of done) (record_of r))
            ∙ ap (is_at words records_at) (sym (records_snoc done r))
            ∙ ap (λ (rows : List Row). is_at words records_at (records_of rows)) (sym (next_done strict file end start bottom [] g.tabling more e is m nothing));
      }

-- a tile by another name
pub by_tile : {tile tile' : Tile} {reply : Reply ℕ} (words : List ℕ) (at n : ℕ) → tile ≡ tile' → reply ≡ stands_from words at (list_in words tile n 0) →
    reply ≡ stands_from words at (list_in words tile' n 0)
by_tile words at n e f = f ∙ ap (λ (tile : Tile). stands_from words at (list_in words tile n 0)) e
