-- The search of rows that are given as words, number by number. Assumes nothing.
use Rattle.numbers.proofs.Prelude.{ℕ, suc, ◌+◌, ◌*◌, ◌/◌, ◌^◌, ◌≤◌, ◌<◌, lt-ltb, le-ltb, length, drop, get_or, drop_of_length-le, drop-cons, true, false, List, ◌∷◌, ◌≡◌, refl, sym, ap, ◌∙◌, arith}
use Rattle.numbers.{proofs.{Coordinates.{twice_read}, Replies.{carried, onward, met, unmet}}, specs.{Point.{read_i32}, Reply.{Reply, given, plain}, declared.refusal.Refusal.{Refusal}}}
use Rattle.verdict.specs.Verdict.{Judgement}
use Rattle.border.specs.declared.place.Point.{Point}
use Rattle.table.proofs.{Agreeing.{agree_refused}, search.{SoFar.{SoFar, how, ends}, Turns.{held}}}
use Rattle.table.specs.{Find.{fix_of, is_precision, matched_by}, GivenRows.{record_word, box_at, row_at, row_with, rows_by}, Hits.{width}, Merge.{merged}, Rows.{Rows, row, table_end}}
use Rattle.table.specs.{Search.{Found, after_turn, judged_turn, row_turn, Sought}, Table.{bounds_of, holds}, Unstopped.{seek_all}, declared.{hits.Hit.{Hit}, location.Location.{Location}, rows.Row.{Row}}}
use Rattle.table.specs.{declared.{search.Turn.{Turn}, table.Bounds.{Bounds}}, inner.Agreeing.{Agrees}}
use Rattle.header.specs.declared.header.Head.{Head}
use Rattle.numbers.specs.Reply as R
use Rattle.verdict.specs.Verdict as J
use Rattle.table.specs.Rows as T

-- ---- a record's box
pub box_read : (a b c d : ℕ) → a < 2 ^ 32 → b < 2 ^ 32 → c < 2 ^ 32 → d < 2 ^ 32 → bounds_of (2 * a) (2 * b) (2 * c) (2 * d)
    ≡ record { min_lat = record { 0 = read_i32 a }; min_lon = record { 0 = read_i32 b }; max_lat = record { 0 = read_i32 c }; max_lon = record { 0 = read_i32 d } }
box_read a b c d ha hb hc hd = let south = twice_read a ha in let west = twice_read b hb in let north = twice_read c hc in let east = twice_read d hd in
    λ i. record { min_lat = record { 0 = south i }; min_lon = record { 0 = west i }; max_lat = record { 0 = north i }; max_lon = record { 0 = east i } }

-- a row whose box was read
pub row_read : (records : List ℕ) (k : ℕ) {place : ℕ} {bounds : Bounds} → place ≡ get_or records (7 * k) 0 → bounds ≡ box_at records k
    → record { place = place; id = k; metadata = record_word records k 1; polygon = record_word records k 2; bounds = bounds; next = 0 } ≡ row_at records k
row_read records k p b = let e : 7 * k ≡ 7 * k + 0 = omega arith in let there = p ∙ ap (λ (i : ℕ). get_or records i 0) e in
    λ i. record { place = there i; id = k; metadata = record_word records k 1; polygon = record_word records k 2; bounds = b i; next = 0 }

-- ---- a record's turn: what stands in its row for the place of its border does not show in it
pub turn_of : (border : List ℕ → ℕ → ℕ) (records : List ℕ) (k : ℕ) (j : Judgement) → judged_turn (row_at records k) j ≡ judged_turn (row_with border records k) j
unfolding judged_turn
turn_of border records k (J.reached verdict least) = refl
turn_of border records k (J.failed least) = refl
turn_of border records k (J.refused n) = refl

module _ (border : List ℕ → ℕ → ℕ) (judge : ℕ → ℕ → Judgement) (fix : Point) (records : List ℕ) (k least : ℕ) where
  pub recorded : holds (box_at records k) fix ≡ true → {r : Row} → r ≡ row_at records k → {j : Judgement} → j ≡ judge (border records k) least
      → judged_turn r j ≡ row_turn judge fix (row_with border records k) least
  recorded h {r} e {j} g =
      ap (judged_turn r) g ∙ ap (λ (x : Row). judged_turn x (judge (border records k) least)) e ∙ turn_of border records k (judge (border records k) least)
      ∙ held judge fix (row_with border records k) least h

-- ---- the numbers, one by one, by what the row of a record is
module _ (row_of : List ℕ → ℕ → Row) (records numbers : List ℕ) (i : ℕ) where
  abbrev rows : Rows
  rows = rows_by row_of records (drop i numbers)

  rows_done : length numbers ≤ i → rows ≡ table_end
  unfolding rows_by
  rows_done h = ap (rows_by row_of records) (drop_of_length-le numbers h)

  module _ (more : i < length numbers) {k : ℕ} (is : k ≡ get_or numbers i 0) where
    next : drop i numbers ≡ k ∷ drop (i + 1) numbers
    next = let e : suc i ≡ i + 1 = omega arith in drop-cons numbers i 0 more ∙ (λ j. sym is j ∷ drop (e j) numbers)

    rows_none : length records / 7 ≤ k → rows ≡ T.refused 36
    unfolding rows_by
    rows_none h = ap (rows_by row_of records) next ∙ rw (le-ltb k (length records / 7) h)

    rows_one : k < length records / 7 → rows ≡ row (row_of records k) (rows_by row_of records (drop (i + 1) numbers))
    unfolding rows_by
    rows_one h = ap (rows_by row_of records) next ∙ rw (lt-ltb k (length records / 7) h)

-- ---- the loop over them
module _ (row_of : List ℕ → ℕ → Row) (judge : ℕ → ℕ → Judgement) (fix : Point) (records numbers : List ℕ) (n : ℕ) where
  -- the search of what is left
  abbrev pub onward_from : ℕ → ℕ → List Hit → Reply Found
  onward_from i = seek_all judge fix (n / width) (rows_by row_of records (drop i numbers))

  module _ {whole : Reply Found} {ws : List ℕ} {count least : ℕ} (i : ℕ) (g : SoFar n whole (onward_from i) ws count least) where
    of_rows : {rows' : Rows} → rows_by row_of records (drop i numbers) ≡ rows' → seek_all judge fix (n / width) rows' least g.hits ≡ whole
    of_rows e = ap (λ (r : Rows). seek_all judge fix (n / width) r least g.hits) (sym e) ∙ g.so_far

    pub all_done : length numbers ≤ i → Agrees (Sought n ws) whole (given (how count 1 least))
    unfolding seek_all
    all_done h = ends g 1 least (of_rows (rows_done row_of records numbers i h))

    module _ (more : i < length numbers) {k : ℕ} (is : k ≡ get_or numbers i 0) where
      pub no_record : (ws' : List ℕ) → length records / 7 ≤ k → Agrees (Sought n ws') whole (R.refused (plain 36))
      unfolding seek_all
      no_record ws' h = agree_refused (Sought n ws') (of_rows (rows_none row_of records numbers i more is h))

      pub turned : {t : Turn} → k < length records / 7 → t ≡ row_turn judge fix (row_of records k) least → after_turn t g.hits (n / width) (onward_from (i + 1)) ≡ whole
      unfolding seek_all
      turned {t} h e = ap (λ (u : Turn). after_turn u g.hits (n / width) (onward_from (i + 1))) e ∙ of_rows (rows_one row_of records numbers i more is h)

-- ---- from the header to the merged matches, by a search
module _ (head : Head) (location : Location) (search : Point → Reply Found) where
  pub no_precision : is_precision head.preamble.precision ≡ false → R.refused (plain 16) ≡ matched_by head location search
  no_precision p = unmet p _ _

  module _ (p : is_precision head.preamble.precision ≡ true) {fix : Point} (f : fix ≡ fix_of location head.preamble.precision) where
    pub no_search : {why : Refusal} → R.refused why ≡ search fix → R.refused why ≡ matched_by head location search
    no_search s = carried (s ∙ ap search f) _ ∙ met p _ _

    pub searched_so : {found : Found} → given found ≡ search fix → given (record { matches = merged found.hits; mark = found.mark; least = found.least }) ≡ matched_by head location search
    searched_so s = onward (s ∙ ap search f) _ ∙ met p _ _
