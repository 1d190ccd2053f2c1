-- A file has fewer rows than bytes before its metadata, and the list of a tile ends at a word, so what a lookup counts fits a word. Assumes nothing.
use Rattle.numbers.proofs.Prelude.{ℕ, zero, suc, ◌+◌, ◌-◌, ◌/◌, ◌^◌, ◌≤◌, ◌<◌, ltb-true, eqb, ltb, length, take, drop, get_or, length-append, length-take, Bool, true, false, List, [], ◌∷◌, ◌++◌, ◌≡◌}
use Rattle.numbers.{proofs.{Prelude.{refl, arith}, Readings.{Grows, reading_grows}, Replies.{given_from, demanded, given_one}}, specs.{Answer.{Answer, if◌then◌else◌}, Reply.{Reply, given, plain}}}
use Rattle.numbers.specs.Varint.{Numeral, reading_of}
use Rattle.verdict.specs.Verdict.{Judgement}
use Rattle.border.specs.declared.place.Point.{Point}
use Rattle.table.proofs.TableRows.{rows_step, at_end, row_less}
use Rattle.table.specs.{Find.{Matched, is_precision, fix_of, matched_with}, GivenRows.{rows_by}, MarkedRows.{judge_numbered, row_numbered, rows_numbered}}
use Rattle.table.specs.{MarkedRows.{searched_marked, matched_marked}, Merge.{seen, summary, group_kind, match_of, merged_after, merged}, Rest.{rest_mark}}
use Rattle.table.specs.Rows.{Rows, row, table_end, unreadable, after}
use Rattle.table.specs.{Rows.{start_at, rows_then, row_by, rows_from, rows_in}, Search.{Found, ended, farthest, after_turn, row_turn, seek, judge_in, searched}, Table.{is_above}, Unstopped.{seek_all}}
use Rattle.table.specs.declared.{hits.Hit.{Hit}, location.Location.{Location}, rows.{Cursor.{Cursor}, Row.{Row}}, search.Turn.{Turn, TheVariants.{On, Met, Stopped, Refused}}}
use Rattle.atlas.{proofs.Parting.{list_end}, specs.{Beside.{matched_beside}, Looked.{parts_of, part_in, matched_atlas}}}
use Rattle.index.specs.Index.{records_at}
use Rattle.header.specs.declared.header.Head.{Head}
use Rattle.numbers.specs.Answer as A
use Rattle.numbers.specs.Reply as R
use Rattle.table.specs.Rows as T

-- each word has 32 bits
abbrev pub Words32 : List ℕ → Type 0
Words32 words = (i : ℕ) → get_or words i 0 < 2 ^ 32

take_short : (n : ℕ) (xs : List ℕ) → length (take n xs) ≤ n
take_short n xs = omega (arith, length-take n xs)

-- ---- rows
many : Rows → ℕ
many (row r rows) = suc (many rows)
many table_end = 0
many unreadable = 0
many (T.refused n) = 0

module _ (read : ℕ → Answer Numeral) (grows : Grows read) (end : ℕ) where
  one_more : (at : Cursor) (answer : Answer Row) → answer ≡ row_by read at → at.place < end
      → ((next : Cursor) → end - next.place < end - at.place → many (rows_from read end next) ≤ end - next.place) → many (rows_then answer (rows_from read end)) ≤ end - at.place
  unfolding many rows_then
  one_more at (A.found r) e more rest = let less = row_less read grows at more e refl in omega (arith, less, rest (after r) less)
  one_more at A.failed e more rest = omega arith
  one_more at (A.refused n) e more rest = omega arith

  rows_few : (fuel : ℕ) (at : Cursor) → end - at.place ≤ fuel → many (rows_from read end at) ≤ end - at.place
  unfolding many
  rows_few zero at h = rw (at_end read grows {end = end} at (omega arith)) (omega arith)
  rows_few (suc fuel) at h = rw (rows_step read grows end at) (choose (ltb at.place end) refl (λ next less. rows_few fuel next (omega arith))) where
    choose : (test : Bool) → ltb at.place end ≡ test → ((next : Cursor) → end - next.place < end - at.place → many (rows_from read end next) ≤ end - next.place)
        → many (if test then rows_then (row_by read at) (rows_from read end) else table_end) ≤ end - at.place
    choose true e rest = one_more at (row_by read at) refl (ltb-true _ _ e) rest
    choose false e rest = omega arith

-- ---- hits
turn_few : (turn : Turn) (hits : List Hit) (room left : ℕ) (go : ℕ → List Hit → Reply Found)
    → ((least : ℕ) (hits : List Hit) (found : Found) → given found ≡ go least hits → length found.hits ≤ length hits + left) → (found : Found)
    → given found ≡ after_turn turn hits room go → length found.hits ≤ length hits + suc left
turn_few (On least) hits room left go rest found e = omega (arith, rest least hits found e)
turn_few (Met hit least) hits room left go rest found e = slot (ltb (length hits) room) e where
  slot : (test : Bool) → given found ≡ (if test then go least (hits ++ hit ∷ []) else R.refused (plain 17)) → length found.hits ≤ length hits + suc left
  slot true e = omega (arith, rest least (hits ++ hit ∷ []) found e, length-append hits (hit ∷ []))
  slot false e = let z : ◌≡◌ {A = ℕ} 0 1 = cc in absurd (omega arith)
turn_few (Stopped mark least) hits room left go rest found e = rw (given_one e) (omega arith)
turn_few (Refused n) hits room left go rest found e = let z : ◌≡◌ {A = ℕ} 0 1 = cc in absurd (omega arith)

module _ (judge : ℕ → ℕ → Judgement) (fix : Point) (end room : ℕ) where
  seek_few : (rows : Rows) (least : ℕ) (hits : List Hit) (found : Found) → given found ≡ seek judge fix end room rows least hits → length found.hits ≤ length hits + many rows
  unfolding seek many
  seek_few (row r rows) least hits found e = above (is_above r.bounds fix) (seek_few rows) e where
    above : (test : Bool) → ((least : ℕ) (hits : List Hit) (found : Found) → given found ≡ seek judge fix end room rows least hits → length found.hits ≤ length hits + many rows)
        → given found ≡ (if test then ended hits (rest_mark end fix (row r rows)) least else after_turn (row_turn judge fix r least) hits room (seek judge fix end room rows))
        → length found.hits ≤ length hits + suc (many rows)
    above true rest e = rw (given_one e) (omega arith)
    above false rest e = turn_few (row_turn judge fix r least) hits room (many rows) (seek judge fix end room rows) rest found e
  seek_few table_end least hits found e = rw (given_one e) (omega arith)
  seek_few unreadable least hits found e = rw (given_one e) (omega arith)
  seek_few (T.refused n) least hits found e = let z : ◌≡◌ {A = ℕ} 0 1 = cc in absurd (omega arith)

-- ---- matches
match_few : (old : Bool) (hit : Hit) (kind : ℕ) → length (if old then [] else match_of hit kind) ≤ 1
match_few true hit kind = omega arith
match_few false hit kind = by_kind (eqb kind 0) _ where
  by_kind : (none : Bool) (match : Hit) → length (if none then [] else (match ∷ [])) ≤ 1
  by_kind true match = omega arith
  by_kind false match = omega arith

merged_few : (before hits : List Hit) → length (merged_after before hits) ≤ length hits
unfolding merged_after
merged_few before [] = omega arith
merged_few before (hit ∷ hits) =
    omega (
      arith,
      length-append (if seen hit.metadata before then [] else match_of hit (group_kind (summary hit.metadata (hit ∷ hits)))) (merged_after (before ++ hit ∷ []) hits),
      match_few (seen hit.metadata before) hit (group_kind (summary hit.metadata (hit ∷ hits))),
      merged_few (before ++ hit ∷ []) hits,
    )

-- ---- rows that are given as words
rows_given : (row_of : List ℕ → ℕ → Row) (records numbers : List ℕ) → many (rows_by row_of records numbers) ≤ length numbers
unfolding many rows_by
rows_given row_of records [] = omega arith
rows_given row_of records (k ∷ numbers) = go (ltb k (length records / 7)) (rows_given row_of records numbers) where
  go : (test : Bool) → many (rows_by row_of records numbers) ≤ length numbers → many (if test then row (row_of records k) (rows_by row_of records numbers) else T.refused 36) ≤ suc (length numbers)
  go true h = omega (arith, h)
  go false h = omega arith

module _ (judge : ℕ → ℕ → Judgement) (fix : Point) (room : ℕ) where
  all_few : (rows : Rows) (least : ℕ) (hits : List Hit) (found : Found) → given found ≡ seek_all judge fix room rows least hits → length found.hits ≤ length hits + many rows
  unfolding seek_all many
  all_few (row r rows) least hits found e = turn_few (row_turn judge fix r least) hits room (many rows) (seek_all judge fix room rows) (all_few rows) found e
  all_few table_end least hits found e = rw (given_one e) (omega arith)
  all_few unreadable least hits found e = rw (given_one e) (omega arith)
  all_few (T.refused n) least hits found e = let z : ◌≡◌ {A = ℕ} 0 1 = cc in absurd (omega arith)

-- ---- what is found
module _ (file : List ℕ) (head : Head) (location : Location) (asked : Bool) (room : ℕ) where
  table_few : many (rows_in file head) ≤ head.sections.metadata
  unfolding rows_in
  table_few =
      omega (arith, rows_few (reading_of head.strict file) (reading_grows head.strict file) head.sections.metadata head.sections.metadata (start_at head.sections.table) (omega arith))

  matched_few : {found : Matched} → given found ≡ matched_with file head location asked room → length found.matches ≤ head.sections.metadata
  unfolding matched_with searched merged
  matched_few e = let fix = fix_of location head.preamble.precision in
      let s = given_from (searched file head fix asked room) _ (demanded (is_precision head.preamble.precision) (plain 16) e).1 in
      let few = seek_few (judge_in file head fix asked) fix head.sections.metadata room (rows_in file head) farthest [] s.it s.is in
      rw (given_one s.onto) (omega (arith, merged_few [] s.it.hits, few, table_few))

  marked_few : (records numbers marks : List ℕ) {found : Matched} → given found ≡ matched_marked file head location asked records numbers marks room → length found.matches ≤ length numbers
  unfolding matched_marked searched_marked merged
  marked_few records numbers marks e = let fix = fix_of location head.preamble.precision in
      let s = given_from (searched_marked file head fix asked records numbers marks room) _ (demanded (is_precision head.preamble.precision) (plain 16) e).1 in
      let few = all_few (judge_numbered file head fix asked records marks) fix room (rows_numbered records numbers) farthest [] s.it s.is in
      rw (given_one s.onto) (omega (arith, merged_few [] s.it.hits, few, rows_given row_numbered records numbers))

  -- through words of 32 bits: a list ends at one of them
  atlas_few : (words : List ℕ) → Words32 words → {found : Matched} → given found ≡ matched_atlas file head words location asked room → length found.matches < 2 ^ 32
  unfolding matched_atlas
  atlas_few words small e = let p = given_from (parts_of (length file) head words location) _ e in
      let end = list_end (length file) head words location p.is in let numbers = part_in words p.it.from p.it.end in
      let few = marked_few (part_in words records_at p.it.behind) numbers (drop p.it.beside words) p.onto in
      omega (arith, few, take_short (p.it.end - p.it.from) (drop p.it.from words), end.1, small end.0)

-- what a lookup counts fits a word
pub beside_few : (file : List ℕ) (head : Head) (words : List ℕ) (location : Location) (asked : Bool) (room : ℕ) → Words32 words → head.sections.metadata < 2 ^ 32
    → {found : Matched} → given found ≡ matched_beside file head words location asked room → length found.matches < 2 ^ 32
unfolding matched_beside
beside_few file head [] location asked room small table e = omega (arith, matched_few file head location asked room e, table)
beside_few file head (word ∷ words) location asked room small table e = atlas_few file head location asked room (word ∷ words) small e
