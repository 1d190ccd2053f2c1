-- Rows that are given as words: records of seven words, and the numbers of those to look at, as an index has them.
use Rattle.std.specs.Prelude.{if◌then◌else◌, ◌+◌, ◌*◌, ◌/◌, ◌∷◌}
use Rattle.numbers.specs.{Point.{read_i32}, Prelude.{ℕ, ltb, length, get_or, Bool, List, []}, Reply.{Reply}}
use Rattle.verdict.specs.Verdict.{Judgement}
use Rattle.border.specs.declared.place.Point.{Point}
use Rattle.table.specs.{Find.{Matched, matched_by, Finding, finding_of}, Hits.{width}, Rows.{Rows, row, table_end, refused}, Search.{Found, judge_in, farthest}, Unstopped.{seek_all}}
use Rattle.table.specs.declared.{location.Location.{Location}, rows.Row.{Row}, table.Bounds.{Bounds}}
use Rattle.header.specs.declared.header.Head.{Head}

-- a word of record k: where the entry begins, the sums of metadata id and border place, lower latitude, lower longitude, upper latitude, upper longitude
abbrev pub record_word : List ℕ → ℕ → ℕ → ℕ
record_word records k i = get_or records (7 * k + i) 0

-- its box, each coordinate by its 32 bits
abbrev pub box_at : List ℕ → ℕ → Bounds
box_at records k =
    record {
      min_lat = record { 0 = read_i32 (record_word records k 3) };
      min_lon = record { 0 = read_i32 (record_word records k 4) };
      max_lat = record { 0 = read_i32 (record_word records k 5) };
      max_lon = record { 0 = read_i32 (record_word records k 6) };
    }

-- the row of record k; no row follows it
abbrev pub row_at : List ℕ → ℕ → Row
row_at records k = record { place = record_word records k 0; id = k; metadata = record_word records k 1; polygon = record_word records k 2; bounds = box_at records k; next = 0 }

-- the rows with these numbers, by what the row of a record is; 36 at a number that has no record
unfoldable pub rows_by : (List ℕ → ℕ → Row) → List ℕ → List ℕ → Rows
rows_by row_of records [] = table_end
rows_by row_of records (k ∷ numbers) = if ltb k (length records / 7) then row (row_of records k) (rows_by row_of records numbers) else refused 36

abbrev pub rows_listed : List ℕ → List ℕ → Rows
rows_listed records numbers = rows_by row_at records numbers

-- the row of record k with something for the place of its border, and the search of such rows by a judging of what stands there
abbrev pub row_with : (List ℕ → ℕ → ℕ) → List ℕ → ℕ → Row
row_with border records k = record { place = record_word records k 0; id = k; metadata = record_word records k 1; polygon = border records k; bounds = box_at records k; next = 0 }

abbrev pub searched_by : (List ℕ → ℕ → ℕ) → (ℕ → ℕ → Judgement) → Point → List ℕ → List ℕ → ℕ → Reply Found
searched_by border judge fix records numbers room = seek_all judge fix room (rows_by (row_with border) records numbers) farthest []

-- the search of them: every row is looked at, since none stops it
unfoldable pub searched_listed : List ℕ → Head → Point → Bool → List ℕ → List ℕ → ℕ → Reply Found
searched_listed file head fix asked records numbers room = seek_all (judge_in file head fix asked) fix room (rows_listed records numbers) farthest []

-- the matches, and all lent words, as `find_in` has them of the file's table
unfoldable pub matched_listed : List ℕ → Head → Location → Bool → List ℕ → List ℕ → ℕ → Reply Matched
matched_listed file head location asked records numbers room = matched_by head location (λ fix. searched_listed file head fix asked records numbers room)

unfoldable pub found_listed : List ℕ → Head → Location → Bool → List ℕ → List ℕ → ℕ → Finding
found_listed file head location asked records numbers n = finding_of n (matched_listed file head location asked records numbers (n / width))
