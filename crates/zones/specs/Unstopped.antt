-- The lookups whose search never stops early: what mark 1 is held against.
use Rattle.std.specs.Prelude.{◌/◌, ◌≡◌}
use Rattle.numbers.specs.{Prelude.{ℕ, Bool, true, false, List}, Reply.{given, ◌>>=◌}}
use Rattle.header.specs.{Header.{head_of}, declared.header.Head.{Head}}
use Rattle.table.specs.{Ending.{Through}, Find.{fix_of}, Hits.{width}, Rows.{Rows, row, rows_in}, Search.{judge_in, farthest}, Table.{is_above}, Unstopped.{matched_all, SomeHolds}}
use Rattle.table.specs.declared.{hits.Hit.{Hit}, location.Location.{Location}, rows.Row.{Row}}
use Rattle.zones.specs.{Lent.{Replied, replied_of}, Lookup.{zones_from}, Simple.{described_from}, declared.{lookup.Zones.{Zones}, simple.Described.{Described}}}

-- lookup and simple lookup over that search: the reply and both lent buffers
unfoldable pub looked_through_all : List ℕ → Location → Bool → ℕ → ℕ → Replied Zones
looked_through_all file location asked n room = replied_of n room (head_of file >>= λ head. zones_from file head asked room (matched_all file head location asked (n / width)))

unfoldable pub simply_looked_through_all : List ℕ → Location → ℕ → ℕ → Replied Described
simply_looked_through_all file location n room = replied_of n room (head_of file >>= λ head. described_from file head room (matched_all file head location false (n / width)))

-- ---- what mark 4 says
-- The search of the file's rows, with these hits, came to a row above the location and stopped there, and one behind that row holds the location.
pub record StoppedShort (file : List ℕ) (location : Location) (asked : Bool) : Type 0 where
  pub head : Head
  pub opened : head_of file ≡ given head
  pub hits : List Hit
  pub stop : Row
  pub rest : Rows
  pub last : ℕ
  pub through :
      let fix = fix_of location head.preamble.precision in
      Through (judge_in file head fix asked) fix (rows_in file head) farthest hits (row stop rest) last
  pub stops : is_above stop.bounds (fix_of location head.preamble.precision) ≡ true
  pub held : SomeHolds (fix_of location head.preamble.precision) rest
