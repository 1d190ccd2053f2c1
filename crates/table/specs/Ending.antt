-- How a search of rows ends: what it went through, and why it ended there.
use Rattle.std.specs.Prelude.{if◌then◌else◌, ◌∷◌, ◌++◌, ◌≡◌}
use Rattle.numbers.specs.{Lists.{padded}, Prelude.{ℕ, eqb, length, Bool, true, false, List, []}, Reply.{given}}
use Rattle.verdict.specs.{Verdict.{Judgement, reached}, declared.step.Verdict.{Verdict}}
use Rattle.border.specs.declared.place.Point.{Point}
use Rattle.table.specs.{Find.{fix_of}, Hits.{words}, Merge.{merged}, Rest.{rest_mark}, Rows.{Rows, row, table_end, unreadable, rows_in}, Search.{kind_of, row_hit, Found, judge_in, farthest}}
use Rattle.table.specs.{Table.{is_above, holds}, declared.{hits.Hit.{Hit}, location.Location.{Location}, rows.Row.{Row}}}
use Rattle.header.specs.{Header.{head_of}, declared.header.Head.{Head}}
use Rattle.verdict.specs.Verdict as J

-- the hit of a row by its border's verdict; none where the location is not in the zone
abbrev pub hits_of : Row → Verdict → List Hit
hits_of r verdict = if eqb (kind_of verdict) 0 then [] else (row_hit r (kind_of verdict) ∷ [])

-- From rows and a least distance, with these hits, to the rows that are left and the least distance there: no row between has its lower latitude above the
-- location, and each border whose box holds the location came to a verdict.
pub data Through (judge : ℕ → ℕ → Judgement) (fix : Point) : Rows → ℕ → List Hit → Rows → ℕ → Type 0 where
  here : {rows : Rows} {least : ℕ} → Through judge fix rows least [] rows least
  outside : {r : Row} {rows left : Rows} {least last : ℕ} {hits : List Hit} → is_above r.bounds fix ≡ false → holds r.bounds fix ≡ false
      → Through judge fix rows least hits left last → Through judge fix (row r rows) least hits left last
  judged : {r : Row} {rows left : Rows} {least closer last : ℕ} {hits : List Hit} {verdict : Verdict} → is_above r.bounds fix ≡ false → holds r.bounds fix ≡ true
      → judge r.polygon least ≡ reached verdict closer → Through judge fix rows closer hits left last → Through judge fix (row r rows) least (hits_of r verdict ++ hits) left last

-- Why the search ends at the rows that are left, by its mark and least distance: 1 at the table's end, the mark of the rest at a row above the location, 2 at an
-- entry that can't be read, 3 at a border that failed. The table has this end.
pub data Ends (judge : ℕ → ℕ → Judgement) (fix : Point) (end : ℕ) : Rows → ℕ → ℕ → ℕ → Type 0 where
  at_the_end : {least : ℕ} → Ends judge fix end table_end least 1 least
  above : {r : Row} {rows : Rows} {least mark : ℕ} → is_above r.bounds fix ≡ true → mark ≡ rest_mark end fix (row r rows) → Ends judge fix end (row r rows) least mark least
  unread : {least : ℕ} → Ends judge fix end unreadable least 2 least
  broken : {r : Row} {rows : Rows} {least last : ℕ} → is_above r.bounds fix ≡ false → holds r.bounds fix ≡ true → judge r.polygon least ≡ J.failed last
      → Ends judge fix end (row r rows) least 3 last

-- a search that found: exactly the hits of the rows that it went through, and why it ended where it did
pub record Ending (judge : ℕ → ℕ → Judgement) (fix : Point) (end : ℕ) (rows : Rows) (least : ℕ) (found : Found) : Type 0 where
  pub left : Rows
  pub last : ℕ
  pub through : Through judge fix rows least found.hits left last
  pub ends : Ends judge fix end left last found.mark found.least

-- the search behind a lookup's answer: the file's rows were searched so, the mark is the search's, and the matches are its hits merged
pub record Behind (file : List ℕ) (location : Location) (asked : Bool) (matches : List Hit) (mark : ℕ) : Type 0 where
  pub head : Head
  pub opened : head_of file ≡ given head
  pub found : Found
  pub ending : Ending (judge_in file head (fix_of location head.preamble.precision) asked) (fix_of location head.preamble.precision) head.sections.metadata (rows_in file head) farthest found
  pub marked : mark ≡ found.mark
  pub merges : matches ≡ merged found.hits

-- an answered lookup: the search behind it, the count of its matches, and the lent words that hold them
pub record Answered (file : List ℕ) (location : Location) (asked : Bool) (n matches mark : ℕ) (hits : List ℕ) : Type 0 where
  pub list : List Hit
  pub behind : Behind file location asked list mark
  pub counted : matches ≡ length list
  pub kept : hits ≡ padded n (words list)
