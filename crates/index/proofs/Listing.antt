-- Lists of a tile by the records in the words, and their places. Assumes nothing.
use Rattle.numbers.proofs.Lists.{sets_append}
use Rattle.numbers.proofs.Prelude.{ℕ, zero, suc, ◌+◌, ◌-◌, ◌*◌, ◌^◌, ◌≤◌, ◌<◌, length, get_or, set, length-append, sets, get_or-set_other, Bool, true, false, List, [], ◌∷◌, ◌++◌}
use Rattle.numbers.{proofs.Prelude.{map, ◌≡◌, refl, sym, ap, subst, ◌∙◌, arith}, specs.Answer.{if◌then◌else◌}}
use Rattle.writer.{proofs.Stores.{stored_length, Left, left_step}, specs.inner.Stored.{Stored}}
use Rattle.index.proofs.Stores.{set_before, read_below, left_below}
use Rattle.index.specs.{Index.{records_at, joined, starts_from, tiles}, Tiles.{tile_at}, declared.tiles.Tile.{Tile}, inner.Building.{is_met_in, list_in, lists_in, low, Listed}}

-- two lists of words have the same records up to a place
abbrev pub Same : ℕ → List ℕ → List ℕ → Type 0
Same end a b = (i : ℕ) → records_at ≤ i → i < end → get_or a i 0 ≡ get_or b i 0

module _ (end : ℕ) (a b : List ℕ) (same : Same end a b) (tile : Tile) where
  pub met_same : (k : ℕ) → records_at + 7 * k + 7 ≤ end → is_met_in a tile k ≡ is_met_in b tile k
  met_same k h =
      rw (
        same (records_at + 7 * k + 3) (omega arith) (omega arith),
        same (records_at + 7 * k + 4) (omega arith) (omega arith),
        same (records_at + 7 * k + 5) (omega arith) (omega arith),
        same (records_at + 7 * k + 6) (omega arith) (omega arith),
      )

  pub list_same : (more k : ℕ) → records_at + 7 * (k + more) ≤ end → list_in a tile more k ≡ list_in b tile more k
  unfolding list_in
  list_same zero k h = refl
  list_same (suc more) k h = go (list_same more (k + 1) (omega arith)) where
    go : list_in a tile more (k + 1) ≡ list_in b tile more (k + 1)
        → (if is_met_in a tile k then k ∷ list_in a tile more (k + 1) else list_in a tile more (k + 1)) ≡ (if is_met_in b tile k then k ∷ list_in b tile more (k + 1) else list_in b tile more (k + 1))
    go e = rw (met_same k (omega arith), e)

-- ---- one list
module _ (words : List ℕ) (tile : Tile) (n k : ℕ) (h : k < n) where
  step : n - k ≡ suc (n - (k + 1))
  step = omega arith

  pub list_met : is_met_in words tile k ≡ true → list_in words tile (n - k) k ≡ (k ∷ []) ++ list_in words tile (n - (k + 1)) (k + 1)
  unfolding list_in
  list_met e = ap (λ (m : ℕ). list_in words tile m k) step ∙ rw e

  pub list_not : is_met_in words tile k ≡ false → list_in words tile (n - k) k ≡ list_in words tile (n - (k + 1)) (k + 1)
  unfolding list_in
  list_not e = ap (λ (m : ℕ). list_in words tile m k) step ∙ rw e

pub list_done : (words : List ℕ) (tile : Tile) (n k : ℕ) → n ≤ k → list_in words tile (n - k) k ≡ []
unfolding list_in
list_done words tile n k h = let z : n - k ≡ 0 = omega arith in ap (λ (m : ℕ). list_in words tile m k) z

-- the loop over the records: what is left of the list, and how far it can have come
pub record Going (before : List ℕ) (tile : Tile) (n from : ℕ) (now : List ℕ) (at k : ℕ) : Type 0 where
  pub within : k ≤ n
  pub above : from ≤ at
  pub few : at ≤ from + k
  pub left : Left before from (list_in before tile n 0) now at (list_in before tile (n - k) k)

module _ {before : List ℕ} {tile : Tile} {n from : ℕ} where
  module _ {now : List ℕ} {at k : ℕ} (g : Going before tile n from now at k) (more : k < n) (room : records_at + 7 * n ≤ from) where
    met_now : is_met_in now tile k ≡ is_met_in before tile k
    met_now = met_same from now before (λ i l h. left_below g.left g.above i h) tile k (omega arith)

    pub going_met : {after : List ℕ} {next : ℕ} → is_met_in now tile k ≡ true → Stored now at (k ∷ []) after next → Going before tile n from after next (k + 1)
    going_met {after} {next} e s = let whole = list_met before tile n k more (sym met_now ∙ e) in record {
      within = omega arith;
      above = omega (arith, s.place_after, g.above);
      few = omega (arith, s.place_after, g.few);
      left = left_step (k ∷ []) (rw whole at g.left) s;
    }

    pub going_not : is_met_in now tile k ≡ false → Going before tile n from now at (k + 1)
    going_not e = let whole = list_not before tile n k more (sym met_now ∙ e) in
        record { within = omega arith; above = g.above; few = omega (arith, g.few); left = rw whole at g.left }

  pub going_ends : {now : List ℕ} {at k : ℕ} → Going before tile n from now at k → n ≤ k → Stored before from (list_in before tile n 0) now at
  going_ends {now} {at} {k} g h = let l = rw (list_done before tile n k h) at g.left in record { place_after = omega (arith, l.places); stored = l.same }

-- ---- all lists
pub list_few : (words : List ℕ) (tile : Tile) (more k : ℕ) → length (list_in words tile more k) ≤ more
unfolding list_in
list_few words tile zero k = omega arith
list_few words tile (suc more) k = go (is_met_in words tile k) (list_few words tile more (k + 1)) where
  go : (t : Bool) → length (list_in words tile more (k + 1)) ≤ more → length (if t then k ∷ list_in words tile more (k + 1) else list_in words tile more (k + 1)) ≤ suc more
  go true h = omega arith
  go false h = omega arith

module _ (before : List ℕ) (precision n from : ℕ) where
  -- the lists from a tile on
  abbrev pub rest_at : ℕ → List (List ℕ)
  rest_at t = lists_in before precision n (tiles - t) t

  abbrev pub all_lists : List (List ℕ)
  all_lists = lists_in before precision n tiles 0

  -- what is left to store of lists and places
  pub record Tiling (now : List ℕ) (at t : ℕ) : Type 0 where
    pub within : t ≤ tiles
    pub above : from ≤ at
    pub few : at ≤ from + 2 ^ 32 * t
    pub places : at + length (joined (rest_at t)) ≡ from + length (joined all_lists)
    pub same : sets (sets now at (joined (rest_at t))) (3 + t) (map low (starts_from at (rest_at t))) ≡ sets (sets before from (joined all_lists)) 3 (map low (starts_from from all_lists))
    pub size : length now ≡ length before
    pub records : Same from now before

  module _ {now : List ℕ} {at t : ℕ} (g : Tiling now at t) (more : t < tiles) (room : records_at + 7 * n ≤ from) (small : n < 2 ^ 32) where
    abbrev list : List ℕ
    list = list_in before (tile_at precision t) n 0

    abbrev rest : List (List ℕ)
    rest = rest_at (t + 1)

    next_lists : rest_at t ≡ list ∷ rest
    unfolding lists_in
    next_lists = let s : tiles - t ≡ suc (tiles - (t + 1)) = omega arith in ap (λ (m : ℕ). lists_in before precision n m t) s

    module _ {middle after : List ℕ} {behind next : ℕ} (p : Stored now (3 + t) (low at ∷ []) middle behind) (s : Stored middle at (list_in middle (tile_at precision t) n 0) after next) where
      middle_same : Same from middle before
      middle_same i l h = ap (λ (m : List ℕ). get_or m i 0) p.stored ∙ get_or-set_other now (3 + t) i (low at) 0 (λ e. omega (arith, e)) ∙ g.records i l h

      is_list : list_in middle (tile_at precision t) n 0 ≡ list
      is_list = list_same from middle before middle_same (tile_at precision t) n 0 (omega arith)

      next_at : next ≡ at + length list
      next_at = s.place_after ∙ ap (λ (l : List ℕ). at + length l) is_list

      after_is : after ≡ sets (set now (3 + t) (low at)) at list
      after_is = s.stored ∙ ap (λ (l : List ℕ). sets middle at l) is_list ∙ ap (λ (m : List ℕ). sets m at list) p.stored

      all_stored : sets after next (joined rest) ≡ set (sets now at (list ++ joined rest)) (3 + t) (low at)
      all_stored =
          ap (λ (m : List ℕ). sets m next (joined rest)) after_is ∙ ap (λ (k : ℕ). sets (sets (set now (3 + t) (low at)) at list) k (joined rest)) next_at
          ∙ sym (sets_append list (joined rest) (set now (3 + t) (low at)) at) ∙ sym (set_before (list ++ joined rest) now (3 + t) at (low at) (omega (arith, g.above)))

      kept : (i : ℕ) → records_at ≤ i → i < from → get_or after i 0 ≡ get_or before i 0
      kept i l h = ap (λ (m : List ℕ). get_or m i 0) s.stored ∙ read_below (list_in middle (tile_at precision t) n 0) middle at i 0 (omega (arith, g.above)) ∙ middle_same i l h

      pub tiling_step : Tiling after next (t + 1)
      unfolding joined starts_from
      tiling_step = let up : 3 + (t + 1) ≡ suc (3 + t) = omega arith in let was = rw next_lists at g.same in let place = rw next_lists at g.places in
          let short = list_few middle (tile_at precision t) n 0 in record {
            within = omega arith;
            above = omega (arith, s.place_after, g.above);
            few = omega (arith, s.place_after, g.few, short, small);
            places = omega (arith, place, next_at, length-append list (joined rest));
            same =
                ap (λ (m : List ℕ). sets m (3 + (t + 1)) (map low (starts_from next rest))) all_stored
                ∙ ap (λ (k : ℕ). sets (set (sets now at (list ++ joined rest)) (3 + t) (low at)) k (map low (starts_from next rest))) up
                ∙ ap (λ (k : ℕ). sets (set (sets now at (list ++ joined rest)) (3 + t) (low at)) (suc (3 + t)) (map low (starts_from k rest))) next_at
                ∙ was;
            size = stored_length s ∙ stored_length p ∙ g.size;
            records = kept;
          }

  no_more : (t : ℕ) → t ≡ tiles → rest_at t ≡ []
  unfolding lists_in
  no_more t e = let z : tiles - t ≡ 0 = omega (arith, e) in ap (λ (m : ℕ). lists_in before precision n m t) z

  pub tiling_ends : {now after : List ℕ} {at t next : ℕ} → Tiling now at t → tiles ≤ t → Stored now 2051 (low at ∷ []) after next → Listed before from all_lists after at
  unfolding joined starts_from
  tiling_ends {now} {after} {at} {t} g h p = let e : t ≡ tiles = omega (arith, g.within) in let none = no_more t e in let was = rw none at g.same in
      let place = rw none at g.places in let last : 3 + t ≡ 2051 = omega (arith, e) in
      record { place_after = omega (arith, place); stored = p.stored ∙ sym (ap (λ (k : ℕ). set now k (low at)) last) ∙ was }

-- a tile by another name
pub same_tile : {tile tile' : Tile} {before after : List ℕ} {at next : ℕ} (n : ℕ) → tile ≡ tile' → Stored before at (list_in before tile n 0) after next →
    Stored before at (list_in before tile' n 0) after next
same_tile {tile} {tile'} {before} {after} {at} {next} n e s = subst (λ (x : Tile). Stored before at (list_in before x n 0) after next) e s
