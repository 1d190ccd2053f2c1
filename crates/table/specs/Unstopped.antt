-- The search that never stops early: what mark 1 is held against.
use Rattle.std.specs.Prelude.{◌≡◌}
use Rattle.numbers.specs.{Prelude.{ℕ, Bool, true, List, []}, Reply.{Reply, plain}}
use Rattle.verdict.specs.Verdict.{Judgement}
use Rattle.border.specs.declared.place.Point.{Point}
use Rattle.header.specs.declared.header.Head.{Head}
use Rattle.table.specs.{Find.{Matched, matched_by}, Rows.{Rows, row, table_end, unreadable, rows_in}, Search.{Found, ended, after_turn, row_turn, judge_in, farthest}, Table.{is_above, holds}}
use Rattle.table.specs.declared.{hits.Hit.{Hit}, location.Location.{Location}, rows.Row.{Row}}
use Rattle.numbers.specs.Reply as R
use Rattle.table.specs.Rows as T

-- as `seek`, but no row stops it because of its lower latitude
unfoldable pub seek_all : (ℕ → ℕ → Judgement) → Point → ℕ → Rows → ℕ → List Hit → Reply Found
seek_all judge fix room (row r rows) least hits = after_turn (row_turn judge fix r least) hits room (seek_all judge fix room rows)
seek_all judge fix room table_end least hits = ended hits 1 least
seek_all judge fix room unreadable least hits = ended hits 2 least
seek_all judge fix room (T.refused n) least hits = R.refused (plain n)

-- what it finds in a file with this header
unfoldable pub matched_all : List ℕ → Head → Location → Bool → ℕ → Reply Matched
matched_all file head location asked room = matched_by head location (λ fix. seek_all (judge_in file head fix asked) fix room (rows_in file head) farthest [])

-- ---- a row that an early stop passed over
-- one of these rows holds the location
pub data SomeHolds (fix : Point) : Rows → Type 0 where
  this : {r : Row} {rows : Rows} → holds r.bounds fix ≡ true → SomeHolds fix (row r rows)
  later : {r : Row} {rows : Rows} → SomeHolds fix rows → SomeHolds fix (row r rows)

-- the search ended at these rows' first, which is above the location, and one behind it holds the location
pub record PassedOver (fix : Point) (rows : Rows) : Type 0 where
  pub stop : Row
  pub rest : Rows
  pub is : rows ≡ row stop rest
  pub stops : is_above stop.bounds fix ≡ true
  pub held : SomeHolds fix rest
