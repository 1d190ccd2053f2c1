-- Lookup (request Q-6): the strict one is refused 31 exactly where the plain one meets a number that the file's end cuts. Assumes nothing.
use Rattle.numbers.proofs.Prelude.{ℕ, zero, suc, ◌+◌, ◌-◌, ◌/◌, ◌%◌, ◌^◌, ◌≤◌, ◌<◌, lt-ltb, ltb-true, ltb, length, Bool, true, false, ◌||◌, List, [], ◌∷◌, ◌++◌, ◌≡◌, refl, sym, ap, subst, ◌∙◌, arith}
use Rattle.numbers.{proofs.Readings.{reading_grows}, specs.{Answer.{Answer, found, failed, if◌then◌else◌}, Reply.{Reply, given, refused, plain, ◌>>=◌}, Varint.{reading_of}}}
use Rattle.verdict.specs.Verdict.{Judgement}
use Rattle.border.specs.{Encoding.{version_of}, declared.place.Point.{Point}}
use Rattle.header.{proofs.{StrictHead.{unstrict, table_within, head_strict, shown_same}, Unless.{shown}}, specs.{Field.{field_at}, Header.{head_of, head_strictly}, Text.{text_at}}}
use Rattle.header.specs.declared.{header.{Head.{Head}, Preamble.{Preamble}, Sections.{Sections}}, text.Blame.{Blame}}
use Rattle.table.{proofs.{StrictRows.{StrictRows, rows_strictly}, TableRows.{rows_step, row_less}}, specs.{Find.{is_precision, fix_of, matched_with}, Hits.{width}, Rest.{rest_mark}}}
use Rattle.table.specs.{Rows.{Rows, table_end, start_at, rows_then, row_by, rows_from, rows_in}, Search.{Found, ended, farthest, after_turn, judged_turn, row_turn, seek, judge_in, searched}}
use Rattle.table.specs.{Table.{is_above, holds, steps_by, entry_by}, declared.{hits.Hit.{Hit}, location.Location.{Location}, rows.{Cursor.{Cursor}, Row.{Row}}, search.Turn.{Turn}}}
use Rattle.table.specs.declared.search.Turn.TheVariants.{On, Met, Stopped, Refused}
use Rattle.zones.proofs.{CutBorder.{CutJudgement, cut_short, judged, judged_cuts}, CutOpening.{CutReply, cut_off, alike, CutSame, then_same, last_same, demand_cut, met_ends, text_cuts}}
use Rattle.zones.proofs.{CutOpening.{head_cuts}, Cuts.{Cuts, cut, same, then_cuts, last_cuts, reading_cuts}}
use Rattle.zones.specs.Cut.{where_found, where_given, cut_in, EndsCut, string_cut, rows_cut, border_cut, seek_cut, fields_cut, matches_cut, zones_cut, lookup_cut}
use Rattle.zones.specs.{Fields.{fields_place, fields_from, fields_of}, Lent.{Outcome, replied_of}, Lookup.{zones_with, zones_by, zones_in, looked_up, looked_strictly}, declared.lookup.Zones.{Zones}}
use Rattle.numbers.specs.Answer as A
use Rattle.numbers.specs.Reply as R
use Rattle.table.proofs.StrictRows as Q
use Rattle.table.specs.Rows as T

-- how a bad field is blamed
abbrev fifteen : Blame
fifteen = record { number = 15; detail = 0 }

-- ---- a row
module _ (file : List ℕ) where
  entry_cuts : (place : ℕ) → Cuts (EndsCut file) (cut_in 6 file place) (entry_by (reading_of true file) place) (entry_by (reading_of false file) place)
  unfolding entry_by steps_by cut_in
  entry_cuts place =
      then_cuts (reading_cuts file place) (λ a. then_cuts (reading_cuts file a.place) (λ b. then_cuts (reading_cuts file b.place) (λ c. then_cuts
      (reading_cuts file c.place) (λ d. then_cuts (reading_cuts file d.place) (λ metadata. then_cuts (reading_cuts file metadata.place) (λ polygon. same))))))

  row_cuts : (at : Cursor) → Cuts (EndsCut file) (cut_in 6 file at.place) (row_by (reading_of true file) at) (row_by (reading_of false file) at)
  unfolding row_by
  row_cuts at = last_cuts _ (entry_cuts at.place)

-- ---- the search
module _ (file : List ℕ) (preamble : Preamble) (sections : Sections) (inside : sections.metadata ≤ length file) where
  abbrev E : Type 0
  E = EndsCut file

  abbrev head_in : Bool → Head
  head_in strict = record { preamble = preamble; sections = sections; strict = strict }

  abbrev end : ℕ
  end = sections.metadata

  module _ (fix : Point) (asked : Bool) (slots : ℕ) where
    abbrev judge : Bool → ℕ → ℕ → Judgement
    judge strict = judge_in file (head_in strict) fix asked

    border_cuts : (polygon least : ℕ) → CutJudgement E (border_cut file (head_in false) fix asked polygon least) (judge true polygon least) (judge false polygon least)
    border_cuts polygon least = judged_cuts file (version_of preamble.version) sections.«data» fix asked ((sections.«data» + polygon) % 2 ^ 32) least

    module _ (hits : List Hit) {met : ℕ → List Hit → Bool} {go go' : ℕ → List Hit → Reply Found}
        (on : (least : ℕ) (hits : List Hit) → CutSame E (met least hits) (go least hits) (go' least hits)) where
      turn_cuts : (turn : Turn) → CutSame E (rows_cut file turn hits slots met) (after_turn turn hits slots go) (after_turn turn hits slots go')
      turn_cuts (On least) = on least hits
      turn_cuts (Met hit least) = slot (ltb (length hits) slots) where
        slot : (test : Bool) → CutSame E (if test then met least (hits ++ hit ∷ []) else false) (if test then go least (hits ++ hit ∷ []) else R.refused (plain 17))
            (if test then go' least (hits ++ hit ∷ []) else R.refused (plain 17))
        slot true = on least (hits ++ hit ∷ [])
        slot false = alike refl
      turn_cuts (Stopped mark least) = alike refl
      turn_cuts (Refused n) = alike refl

      judged_turn_cuts : (r : Row) {b : Bool} {strict plainly : Judgement} → CutJudgement E b strict plainly
          → CutSame E (b || rows_cut file (judged_turn r plainly) hits slots met) (after_turn (judged_turn r strict) hits slots go) (after_turn (judged_turn r plainly) hits slots go')
      unfolding judged_turn
      judged_turn_cuts r (cut_short e) = cut_off e
      judged_turn_cuts r (judged {judgement = judgement}) = turn_cuts (judged_turn r judgement)

      by_row : (r : Row) (least : ℕ) → CutSame E ((if holds r.bounds fix then border_cut file (head_in false) fix asked r.polygon least else false) ||
          rows_cut file (row_turn (judge false) fix r least) hits slots met) (after_turn (row_turn (judge true) fix r least) hits slots go) (after_turn (row_turn (judge false) fix r least) hits slots go')
      unfolding row_turn
      by_row r least = by_box (holds r.bounds fix) where
        by_box : (test : Bool) → CutSame E ((if test then border_cut file (head_in false) fix asked r.polygon least else false) || rows_cut file
            (if test then judged_turn r (judge false r.polygon least) else On least) hits slots met)
            (after_turn (if test then judged_turn r (judge true r.polygon least) else On least) hits slots go)
            (after_turn (if test then judged_turn r (judge false r.polygon least) else On least) hits slots go')
        by_box true = judged_turn_cuts r (border_cuts r.polygon least)
        by_box false = on least hits

    abbrev rows : Bool → Cursor → Rows
    rows strict at = rows_from (reading_of strict file) end at

    abbrev sought : Bool → Rows → ℕ → List Hit → Reply Found
    sought strict = seek (judge strict) fix end slots

    -- behind an early stop both have one mark
    marks : {r r' : Row} {strict plainly : Rows} → StrictRows (rest_mark end fix) (T.row r strict) (T.row r' plainly) → rest_mark end fix (T.row r strict) ≡ rest_mark end fix (T.row r' plainly)
    marks (Q.row m h) = m

    abbrev Sought : ℕ → Type 0
    Sought more = (at : Cursor) → end - at.place < more → (least : ℕ) (hits : List Hit)
        → CutSame E (seek_cut file (head_in false) fix asked slots more at least hits) (sought true (rows true at) least hits) (sought false (rows false at) least hits)

    -- what follows a row that was read in both
    one_row : (more : ℕ) (at : Cursor) (least : ℕ) (hits : List Hit) → ((r : Row) → found r ≡ row_by (reading_of false file) at → end - (T.after r).place < more)
        → Sought more → {b : Bool} {strict plainly : Answer Row} → plainly ≡ row_by (reading_of false file) at → StrictRows (rest_mark end fix)
        (rows_then strict (rows true)) (rows_then plainly (rows false)) → Cuts E b strict plainly
        → CutSame E (b || where_found plainly λ r. if is_above r.bounds fix then false else ((if holds r.bounds fix then border_cut file (head_in false) fix
        asked r.polygon least else false) || rows_cut file (row_turn (judge false) fix r least) hits slots (seek_cut file (head_in false) fix asked slots more (T.after r))))
        (sought true (rows_then strict (rows true)) least hits) (sought false (rows_then plainly (rows false)) least hits)
    unfolding rows_then seek
    one_row more at least hits less rest is alike-rows (cut e) = cut_off e
    one_row more at least hits less rest is alike-rows (same {answer = found r}) = by_above (is_above r.bounds fix) where
      by_above : (above : Bool) → CutSame E (if above then false else ((if holds r.bounds fix then border_cut file (head_in false) fix asked r.polygon
          least else false) || rows_cut file (row_turn (judge false) fix r least) hits slots (seek_cut file (head_in false) fix asked slots more (T.after r))))
          (if above then ended hits (rest_mark end fix (T.row r (rows true (T.after r)))) least else after_turn (row_turn (judge true) fix r least) hits slots (sought true (rows true (T.after r))))
          (if above then ended hits (rest_mark end fix (T.row r (rows false (T.after r)))) least else after_turn (row_turn (judge false) fix r least) hits slots (sought false (rows false (T.after r))))
      by_above true = alike (ap (λ (mark : ℕ). shown (λ (f : Found). f) (ended hits mark least)) (marks alike-rows))
      by_above false = by_row hits (rest (T.after r) (less r is)) r least
    one_row more at least hits less rest is alike-rows (same {answer = failed}) = alike refl
    one_row more at least hits less rest is alike-rows (same {answer = A.refused n}) = alike refl

    seek_cuts : (more : ℕ) → Sought more
    unfolding seek_cut seek
    seek_cuts zero at h least hits = absurd (omega arith)
    seek_cuts (suc more) at h least hits =
        let Goal : Rows → Rows → Type 0 = λ strict plainly. CutSame E (seek_cut file (head_in false) fix asked slots (suc more) at least hits)
        (sought true strict least hits) (sought false plainly least hits) in
        subst (λ (x : Rows). Goal x (rows false at)) (sym (rows_step (reading_of true file) (reading_grows true file) end at))
        (subst (λ (x : Rows). Goal (if ltb at.place end then rows_then (row_by (reading_of true file) at) (rows true) else table_end) x)
        (sym (rows_step (reading_of false file) (reading_grows false file) end at)) (by_end (ltb at.place end) refl (seek_cuts more))) where
          both_rows : at.place < end → StrictRows (rest_mark end fix) (rows_then (row_by (reading_of true file) at) (rows true)) (rows_then (row_by (reading_of false file) at) (rows false))
          both_rows here = let there : ltb at.place end ≡ true = lt-ltb at.place end here in
              let on : (strict : Bool) → rows strict at ≡ rows_then (row_by (reading_of strict file) at) (rows strict) = λ strict. rows_step (reading_of strict file)
              (reading_grows strict file) end at ∙ rw there refl in
              subst (λ (x : Rows). StrictRows (rest_mark end fix) x (rows_then (row_by (reading_of false file) at) (rows false))) (on true)
              (subst (λ (x : Rows). StrictRows (rest_mark end fix) (rows true at) x) (on false) (rows_strictly file end inside fix at))

          by_end : (test : Bool) → ltb at.place end ≡ test → Sought more
              → CutSame E (if test then (cut_in 6 file at.place || where_found (row_by (reading_of false file) at) λ r. if is_above r.bounds fix then false
              else ((if holds r.bounds fix then border_cut file (head_in false) fix asked r.polygon least else false)
              || rows_cut file (row_turn (judge false) fix r least) hits slots (seek_cut file (head_in false) fix asked slots more (T.after r)))) else false)
              (sought true (if test then rows_then (row_by (reading_of true file) at) (rows true) else table_end) least hits)
              (sought false (if test then rows_then (row_by (reading_of false file) at) (rows false) else table_end) least hits)
          by_end true e rest = let here : at.place < end = ltb-true _ _ e in
              one_row more at least hits (λ r is. omega (arith, h, row_less (reading_of false file) (reading_grows false file) at here is refl)) rest refl (both_rows here) (row_cuts file at)
          by_end false e rest = alike refl

    searched_cuts : CutSame E (seek_cut file (head_in false) fix asked slots (suc (end - sections.table)) (start_at sections.table) farthest [])
        (searched file (head_in true) fix asked slots) (searched file (head_in false) fix asked slots)
    unfolding searched rows_in
    searched_cuts = seek_cuts (suc (end - sections.table)) (start_at sections.table) (omega arith) farthest []

  matched_cuts : (location : Location) (asked : Bool) (slots : ℕ) → CutSame E (if is_precision preamble.precision then seek_cut file (head_in false)
      (fix_of location preamble.precision) asked slots (suc (end - sections.table)) (start_at sections.table) farthest [] else false)
      (matched_with file (head_in true) location asked slots) (matched_with file (head_in false) location asked slots)
  unfolding matched_with
  matched_cuts location asked slots = let fix = fix_of location preamble.precision in
      demand_cut (is_precision preamble.precision) (plain 16)
      (last_same (searched file (head_in true) fix asked slots) (searched file (head_in false) fix asked slots) _ (searched_cuts fix asked slots))

  -- ---- the fields
  field_cuts : (place tag room : ℕ) → CutSame E (string_cut file end place) (field_at true file end place tag room) (field_at false file end place tag room)
  unfolding field_at
  field_cuts place tag room = last_same (text_at true file end place fifteen) (text_at false file end place fifteen) _ (text_cuts file end place fifteen)

  fields_cuts : (room more tag place : ℕ) (text : List ℕ) → CutSame E (fields_cut file (head_in false) room more tag place text) (fields_from file (head_in true) room more tag place text)
      (fields_from file (head_in false) room more tag place text)
  unfolding fields_from fields_cut
  fields_cuts room zero tag place text = alike refl
  fields_cuts room (suc more) tag place text =
      then_same (field_at true file end place tag (room - length text)) (field_at false file end place tag (room - length text)) (field_cuts place tag (room - length text))
      (λ field. fields_cuts room more (tag + 1) field.next (text ++ field.bytes))

  matches_cuts : (room : ℕ) (matches : List Hit) (text : List ℕ) → CutSame E (matches_cut file (head_in false) room matches text) (fields_of file (head_in true) room matches text)
      (fields_of file (head_in false) room matches text)
  unfolding fields_of matches_cut
  matches_cuts room [] text = alike refl
  matches_cuts room (match ∷ matches) text = let place = fields_place (head_in false) match.metadata in
      then_same (fields_from file (head_in true) room preamble.count 0 place text) (fields_from file (head_in false) room preamble.count 0 place text)
      (fields_cuts room preamble.count 0 place text) (matches_cuts room matches)

  zones_cuts : (location : Location) (asked : Bool) (n room : ℕ)
      → CutSame E (zones_cut file (head_in false) location asked n room) (zones_with file (head_in true) location asked n room) (zones_with file (head_in false) location asked n room)
  unfolding zones_with zones_cut
  zones_cuts location asked n room =
      then_same (matched_with file (head_in true) location asked (n / width)) (matched_with file (head_in false) location asked (n / width)) (matched_cuts location asked (n / width))
      (λ found. last_same (fields_of file (head_in true) room found.matches []) (fields_of file (head_in false) room found.matches []) _ (matches_cuts room found.matches []))

-- ---- in a file that is opened first
module _ (file : List ℕ) (location : Location) (asked : Bool) (n room : ℕ) where
  abbrev zones_of : Head → Reply (Outcome Zones)
  zones_of head = zones_with file head location asked n room

  opened_cuts : (a b : Head) → head_strictly file ≡ given a → head_of file ≡ given b → unstrict file a ≡ unstrict file b → CutSame (EndsCut file) (zones_cut file b location asked n room)
      (zones_of a) (zones_of b)
  opened_cuts a b is_a is_b e = let strict : a.strict ≡ true = head_strict true file is_a in let plainly : b.strict ≡ false = head_strict false file is_b in
      let made_a : record { preamble = a.preamble; sections = a.sections; strict = true } ≡ a = λ i. record { preamble = a.preamble; sections = a.sections; strict = sym strict i } in
      let made_b : unstrict file b ≡ b = λ i. record { preamble = b.preamble; sections = b.sections; strict = sym plainly i } in
      subst (λ (h : Head). CutSame (EndsCut file) (zones_cut file b location asked n room) (zones_of h) (zones_of b)) made_a
      (subst (λ (h : Head). CutSame (EndsCut file) (zones_cut file h location asked n room) (zones_of (record { preamble = a.preamble; sections = a.sections; strict = true })) (zones_of h))
      (e ∙ made_b) (zones_cuts file a.preamble a.sections (table_within true file is_a) location asked n room))

  by_cuts : CutSame (EndsCut file) (lookup_cut file location asked n room) (zones_by (head_strictly file) file location asked n room) (zones_by (head_of file) file location asked n room)
  unfolding lookup_cut
  by_cuts = go (head_strictly file) (head_of file) refl refl (head_cuts file) where
    go : {b : Bool} (r s : Reply Head) → head_strictly file ≡ r → head_of file ≡ s → CutReply (EndsCut file) (unstrict file) b r s
        → CutSame (EndsCut file) (b || where_given s λ head. zones_cut file head location asked n room) (r >>= zones_of) (s >>= zones_of)
    go r s is-r is-s (cut_off e) = cut_off e
    go (given a) (given b) is-r is-s (alike e) = opened_cuts a b is-r is-s (cc)
    go (refused why) (refused why') is-r is-s (alike e) = let one : why ≡ why' = cc in alike (ap refused one)
    go (given a) (refused why) is-r is-s (alike e) = let z : ◌≡◌ {A = ℕ} 0 1 = cc in absurd (omega arith)
    go (refused why) (given b) is-r is-s (alike e) = let z : ◌≡◌ {A = ℕ} 0 1 = cc in absurd (omega arith)

  -- The strict lookup is refused 31, all lent output zero, exactly where the plain one meets a number that the file's end cuts before it is refused
  -- or ends; else it is the plain one, reply and every lent word and byte.
  pub strict_lookup_cut : looked_strictly file location asked n room ≡ (if lookup_cut file location asked n room then replied_of n room (refused (plain 31)) else looked_up file location asked n room)
  unfolding looked_strictly looked_up zones_in
  strict_lookup_cut = go by_cuts where
    go : {b : Bool} {r s : Reply (Outcome Zones)} → CutSame (EndsCut file) b r s → replied_of n room r ≡ (if b then replied_of n room (refused (plain 31)) else replied_of n room s)
    go (cut_off e) = refl
    go {r = r} {s = s} (alike e) = ap (replied_of n room) (sym (shown_same r) ∙ e ∙ shown_same s)

  -- and then the file's last byte is 128 or more
  pub lookup_cut_ends : lookup_cut file location asked n room ≡ true → EndsCut file
  lookup_cut_ends = met_ends by_cuts
