-- Mark 1 means that nothing was missed: the search finds what one finds that never stops early. Mark 4 means that something may have been. Assumes nothing.
use Rattle.numbers.proofs.Prelude.{ℕ, ltb, length, Bool, true, false, List, [], ◌∷◌, ◌++◌, ◌≡◌, refl, sym, ap, ◌∙◌, arith}
use Rattle.numbers.{proofs.Replies.{given_from}, specs.{Answer.{if◌then◌else◌}, Reply.{Reply, given, plain, demand, ◌>>=◌, ◌>>◌}}}
use Rattle.verdict.specs.Verdict.{Judgement}
use Rattle.border.specs.declared.place.Point.{Point}
use Rattle.header.specs.declared.header.Head.{Head}
use Rattle.table.proofs.{SearchEnds.{met_check}, rest.Remaining.{not_held}}
use Rattle.table.specs.{Ending.{Ends, at_the_end, above, unread, broken}, Find.{fix_of, is_precision, Matched, matched_with}, Merge.{merged}, Rest.{rest_mark}}
use Rattle.table.specs.{Rows.{Rows, row, table_end, unreadable, rows_in}, Search.{row_turn, Found, ended, after_turn, seek, judge_in, farthest, searched}, Table.{is_above, holds}}
use Rattle.table.specs.{Unstopped.{seek_all, matched_all, SomeHolds, this, later, PassedOver}, declared.{hits.Hit.{Hit}, location.Location.{Location}, rows.Row.{Row}, search.Turn.{Turn}}}
use Rattle.table.specs.declared.search.Turn.TheVariants.{On, Met, Stopped, Refused}
use Rattle.numbers.specs.Reply as R
use Rattle.table.proofs.search.Turns as W
use Rattle.table.specs.Rows as T

-- ---- the rest of a table
-- what a rest's mark says of its first row, by its two tests
record Clear (end : ℕ) (fix : Point) (r : Row) (rows : Rows) : Type 0 where
  missed : holds r.bounds fix ≡ false
  clear : rest_mark end fix rows ≡ 1

clear_row : (end : ℕ) (fix : Point) (r : Row) (rows : Rows) → rest_mark end fix (row r rows) ≡ 1 → Clear end fix r rows
unfolding rest_mark
clear_row end fix r rows e = go (ltb end r.next) (holds r.bounds fix) refl e where
  go : (past held : Bool) → holds r.bounds fix ≡ held → (if past then 2 else (if held then 4 else rest_mark end fix rows)) ≡ 1 → Clear end fix r rows
  go true held h e = absurd (omega (arith, e))
  go false true h e = absurd (omega (arith, e))
  go false false h e = record { missed = h; clear = e }

-- a row that holds the location, or one behind it
held_row : (end : ℕ) (fix : Point) (rows : Rows) → rest_mark end fix rows ≡ 4 → SomeHolds fix rows
unfolding rest_mark
held_row end fix (row r rows) e = go (ltb end r.next) (holds r.bounds fix) refl (held_row end fix rows) e where
  go : (past held : Bool) → holds r.bounds fix ≡ held → (rest_mark end fix rows ≡ 4 → SomeHolds fix rows) → (if past then 2 else (if held then 4 else rest_mark end fix rows)) ≡ 4
      → SomeHolds fix (row r rows)
  go true held h rest e = absurd (omega (arith, e))
  go false true h rest e = this h
  go false false h rest e = later (rest e)
held_row end fix table_end e = absurd (omega (arith, e))
held_row end fix unreadable e = absurd (omega (arith, e))
held_row end fix (T.refused n) e = absurd (omega (arith, e))

-- ---- the search
module _ (judge : ℕ → ℕ → Judgement) (fix : Point) (end room : ℕ) where
  -- a rest with mark 1 changes nothing
  pub unchanged : (rows : Rows) (least : ℕ) (hits : List Hit) → rest_mark end fix rows ≡ 1 → seek_all judge fix room rows least hits ≡ ended hits 1 least
  unfolding seek_all rest_mark
  unchanged (row r rows) least hits e = let c = clear_row end fix r rows e in
      ap (λ (t : Turn). after_turn t hits room (seek_all judge fix room rows)) (sym (W.not_held judge fix r least c.missed)) ∙ unchanged rows least hits c.clear
  unchanged table_end least hits e = refl
  unchanged unreadable least hits e = absurd (omega (arith, e))
  unchanged (T.refused n) least hits e = absurd (omega (arith, e))

  -- where one search gives with mark 1, so does the other
  abbrev Whole : (ℕ → List Hit → Reply Found) → (ℕ → List Hit → Reply Found) → Type 0
  Whole go all = (least : ℕ) (hits : List Hit) (f : Found) → go least hits ≡ given f → f.mark ≡ 1 → all least hits ≡ given f

  turn_whole : {go all : ℕ → List Hit → Reply Found} → Whole go all → (turn : Turn) (hits : List Hit) (f : Found) → after_turn turn hits room go ≡ given f
      → f.mark ≡ 1 → after_turn turn hits room all ≡ given f
  turn_whole w (On least) hits f e one = w least hits f e one
  turn_whole {go} {all} w (Met hit least) hits f e one = by_room (ltb (length hits) room) e where
    by_room : (t : Bool) → (if t then go least (hits ++ hit ∷ []) else R.refused (plain 17)) ≡ given f → (if t then all least (hits ++ hit ∷ []) else R.refused (plain 17)) ≡ given f
    by_room true e = w least (hits ++ hit ∷ []) f e one
    by_room false e = e
  turn_whole w (Stopped mark least) hits f e one = e
  turn_whole w (Refused n) hits f e one = e

  seek_whole : (rows : Rows) → Whole (seek judge fix end room rows) (seek_all judge fix room rows)
  unfolding seek seek_all
  seek_whole (row r rows) least hits f e one = go (is_above r.bounds fix) (seek_whole rows) e where
    go : (t : Bool) → Whole (seek judge fix end room rows) (seek_all judge fix room rows)
        → (if t then ended hits (rest_mark end fix (row r rows)) least else after_turn (row_turn judge fix r least) hits room (seek judge fix end room rows)) ≡ given f
        → after_turn (row_turn judge fix r least) hits room (seek_all judge fix room rows) ≡ given f
    go true rest e = let is : record { hits = hits; mark = rest_mark end fix (row r rows); least = least } ≡ f = cc in
        let mark : rest_mark end fix (row r rows) ≡ 1 = ap (λ (x : Found). x.mark) is ∙ one in
        unchanged (row r rows) least hits mark ∙ ap (λ (m : ℕ). ended hits m least) (sym mark) ∙ e
    go false rest e = turn_whole rest (row_turn judge fix r least) hits f e one
  seek_whole table_end least hits f e one = e
  seek_whole unreadable least hits f e one = e
  seek_whole (T.refused n) least hits f e one = e

-- ---- in a file
-- Matches with mark 1 are those of the search that never stops early.
pub matched_whole : (file : List ℕ) (head : Head) (location : Location) (asked : Bool) (room : ℕ) (m : Matched) → given m ≡ matched_with file head location asked room → m.mark ≡ 1
    → matched_with file head location asked room ≡ matched_all file head location asked room
unfolding matched_with matched_all searched
matched_whole file head location asked room m e one = let fix = fix_of location head.preamble.precision in
    let s = given_from (searched file head fix asked room) _ (met_check (demand (is_precision head.preamble.precision) (plain 16)) _ e) in
    let is : m ≡ record { matches = merged s.it.hits; mark = s.it.mark; least = s.it.least } = cc in
    ap (λ (x : Reply Found). demand (is_precision head.preamble.precision) (plain 16) >> (x >>= λ found. given
    (record { matches = merged found.hits; mark = found.mark; least = found.least }))) (sym s.is ∙ sym (seek_whole (judge_in file head fix asked) fix
    head.sections.metadata room (rows_in file head) farthest [] s.it (sym s.is) (sym (ap (λ (x : Matched). x.mark) is) ∙ one)))

-- ---- mark 4
-- Where a search ended with mark 4, a row behind the one at which it stopped holds the location.
pub passed_over : {judge : ℕ → ℕ → Judgement} {fix : Point} {end : ℕ} {rows : Rows} {least mark last : ℕ} → Ends judge fix end rows least mark last → mark ≡ 4 → PassedOver fix rows
passed_over at_the_end e = absurd (omega (arith, e))
passed_over {fix = fix} {end = end} (above {r} {rows} up m) e = record { stop = r; rest = rows; is = refl; stops = up; held = behind (held_row end fix (row r rows) (sym m ∙ e)) } where
  behind : SomeHolds fix (row r rows) → SomeHolds fix rows
  behind (this h) = let g : true ≡ false = sym h ∙ not_held r.bounds fix up in let z : ◌≡◌ {A = ℕ} 0 1 = cc in absurd (omega arith)
  behind (later s) = s
passed_over unread e = absurd (omega (arith, e))
passed_over (broken low held j) e = absurd (omega (arith, e))
