-- Rows that are given as words, with marks along their borders: document 04. Entry k's word says where its border's marks stand in the words of the marks, 0 where it has none.
use Rattle.std.specs.Prelude.{if◌then◌else◌, ◌/◌}
use Rattle.numbers.specs.{Prelude.{ℕ, eqb, get_or, Bool, List, []}, Reply.{Reply}}
use Rattle.border.specs.{Encoding.{version_of, encoded_by}, declared.{place.Point.{Point}, reader.Encoding.{Encoding}}}
use Rattle.marks.specs.Judging.{judged_by}
use Rattle.verdict.specs.Verdict.{Judgement}
use Rattle.table.specs.{Find.{Matched, matched_by, Finding, finding_of}, GivenRows.{record_word, box_at, rows_by}, Hits.{width}, Rows.{Rows}, Search.{Found, judge_in, farthest}, Unstopped.{seek_all}}
use Rattle.table.specs.declared.{location.Location.{Location}, rows.Row.{Row}}
use Rattle.header.specs.declared.header.Head.{Head}

-- how a file with this header has its borders written
abbrev pub encoding_in : Head → Encoding
encoding_in head = encoded_by head.strict (version_of head.preamble.version) head.sections.«data»

-- where the marks of record k stand
abbrev pub mark_for : List ℕ → ℕ → ℕ
mark_for marks k = get_or marks k 0

-- the border of record k, by its marks if it has any
unfoldable pub judge_marked : List ℕ → Head → Point → Bool → List ℕ → ℕ → ℕ → ℕ → Judgement
judge_marked file head fix asked marks k polygon least =
    if eqb (mark_for marks k) 0
    then judge_in file head fix asked polygon least
    else judged_by file (encoding_in head) marks (mark_for marks k) fix.lat fix.lon asked least

-- by its number
abbrev pub judge_numbered : List ℕ → Head → Point → Bool → List ℕ → List ℕ → ℕ → ℕ → Judgement
judge_numbered file head fix asked records marks k = judge_marked file head fix asked marks k (record_word records k 2)

-- its row, which has its own number for the place of its border
abbrev pub row_numbered : List ℕ → ℕ → Row
row_numbered records k = record { place = record_word records k 0; id = k; metadata = record_word records k 1; polygon = k; bounds = box_at records k; next = 0 }

abbrev pub rows_numbered : List ℕ → List ℕ → Rows
rows_numbered records numbers = rows_by row_numbered records numbers

-- the search of them, the matches, and all lent words, as those of rows without marks
unfoldable pub searched_marked : List ℕ → Head → Point → Bool → List ℕ → List ℕ → List ℕ → ℕ → Reply Found
searched_marked file head fix asked records numbers marks room = seek_all (judge_numbered file head fix asked records marks) fix room (rows_numbered records numbers) farthest []

unfoldable pub matched_marked : List ℕ → Head → Location → Bool → List ℕ → List ℕ → List ℕ → ℕ → Reply Matched
matched_marked file head location asked records numbers marks room = matched_by head location (λ fix. searched_marked file head fix asked records numbers marks room)

unfoldable pub found_marked : List ℕ → Head → Location → Bool → List ℕ → List ℕ → List ℕ → ℕ → Finding
found_marked file head location asked records numbers marks n = finding_of n (matched_marked file head location asked records numbers marks (n / width))
