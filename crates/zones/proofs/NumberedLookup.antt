-- Which numbers a lookup can be refused with. Assumes nothing.
use Rattle.numbers.proofs.Prelude.{ℕ, zero, suc, ◌+◌, ◌-◌, ◌/◌, eqb, ltb, leb, length, Bool, true, false, List, [], ◌∷◌, ◌++◌, ◌≡◌, refl, subst, arith}
use Rattle.numbers.proofs.{Readings.{reading_numbered}, Refusals.{Listed, still_listed, Numbered, as_found, as_failed, as_refused, either, then_numbered}}
use Rattle.numbers.{proofs.{Replies.{NumberedReply, answers, refuses, then_reply, then_with, and_then, demands, number_of_lem}, Tests.{differ}}, specs.Answer.{Answer, if◌then◌else◌}}
use Rattle.numbers.specs.{Reply.{Reply, refused, plain, ◌>>=◌}, Varint.{reading_of}, declared.refusal.Refusal.{Refusal}}
use Rattle.border.specs.declared.place.Point.{Point}
use Rattle.verdict.{proofs.Numbered.{NumberedJudgement, judged, unjudged, not_judged, judged_numbered}, specs.Verdict.{Judgement}}
use Rattle.header.{proofs.{Numbered.{header_numbers, text_numbered, blame_numbered, head_numbered}, StrictHead.{head_strict}}, specs.{Field.{field, field_at}, Header.{blame_of, head_by}}}
use Rattle.header.specs.{Text.{bytes_of, text_at}, declared.{header.Head.{Head}, text.Blame.{Blame}}}
use Rattle.table.{proofs.TableRows.{rows_so}, specs.{Find.{fix_of, is_precision, matched_with}, Hits.{width}, Rows.{Rows, row, table_end, unreadable, row_by, rows_from, rows_in}}}
use Rattle.table.specs.{Search.{kind_of, judged_turn, row_turn, Found, after_turn, seek, judge_in, farthest, searched}, Table.{steps_by, entry_by, is_above, holds}, declared.hits.Hit.{Hit}}
use Rattle.table.specs.declared.{location.Location.{Location}, rows.{Cursor.{Cursor}, Row.{Row}}, search.Turn.{Turn, TheVariants.{On, Met, Stopped, Refused}}}
use Rattle.zones.specs.{Fields.{fields_place, fields_from, fields_of}, Lent.{Outcome, replied_of}, Lookup.{zones_with, zones_by, zones_in, looked_up, looked_strictly}}
use Rattle.zones.specs.{Simple.{picked_from, picked_of, checked, description_at, description_of, bytes_in, worded_of, described_with, described_in, simply_looked}, declared.simple.Picked.{Picked}}
use Rattle.numbers.specs.Answer as A
use Rattle.table.specs.Rows as T

-- the numbers that document 01 gives to reading a file: 1 to 18
abbrev pub lookup_numbers : List ℕ
lookup_numbers = header_numbers ++ (15 ∷ 16 ∷ 17 ∷ 18 ∷ [])

-- a strict lookup has 31 beside them
abbrev more : Bool → List ℕ
more strict = if strict then 31 ∷ [] else []

abbrev pub Known : Bool → ℕ → Type 0
Known strict = Listed (lookup_numbers ++ more strict)

known : (strict : Bool) (n : ℕ) → Listed header_numbers n → Known strict n
known strict n h = still_listed lookup_numbers (more strict) n (still_listed header_numbers (15 ∷ 16 ∷ 17 ∷ 18 ∷ []) n h)

cut : (strict : Bool) → strict ≡ true → Known strict 31
cut true e = refl
cut false e = differ e

-- ---- the table
forward : (strict : Bool) (file : List ℕ) (place : ℕ) → Numbered (Known strict) (reading_of strict file place)
forward strict = reading_numbered {P = Known strict} strict refl (cut strict)

entry_read : (strict : Bool) (file : List ℕ) (place : ℕ) → Numbered (Known strict) (entry_by (reading_of strict file) place)
unfolding entry_by steps_by
entry_read strict file place =
    then_numbered (forward strict file place) (λ a. then_numbered (forward strict file a.place) (λ b. then_numbered (forward strict file b.place)
    (λ c. then_numbered (forward strict file c.place) (λ d. then_numbered (forward strict file d.place) (λ metadata. then_numbered (forward strict file
    metadata.place) (λ polygon. as_found))))))

row_read : (strict : Bool) (file : List ℕ) (at : Cursor) → Numbered (Known strict) (row_by (reading_of strict file) at)
unfolding row_by
row_read strict file at = then_numbered (entry_read strict file at.place) (λ entry. as_found)

-- the number that the rows end with
abbrev NumberedRows : Bool → Rows → Type 0
NumberedRows strict (row r rows) = NumberedRows strict rows
NumberedRows strict table_end = Unit
NumberedRows strict unreadable = Unit
NumberedRows strict (T.refused n) = Known strict n

rows_read : (strict : Bool) (file : List ℕ) (end : ℕ) (at : Cursor) → NumberedRows strict (rows_from (reading_of strict file) end at)
rows_read strict file = rows_so (reading_of strict file) (NumberedRows strict) tt tt (λ at r rest e h. h) (λ at n e. known_number (row_read strict file at) e) where
  known_number : {answer : Answer Row} {n : ℕ} → Numbered (Known strict) answer → A.refused n ≡ answer → Known strict n
  known_number as_found e = let z : ◌≡◌ {A = ℕ} 0 1 = cc in absurd (omega arith)
  known_number as_failed e = let z : ◌≡◌ {A = ℕ} 0 1 = cc in absurd (omega arith)
  known_number {n = n} (as_refused {n = m} h) e = let same : n ≡ m = cc in rw same h

-- ---- a search
pub data NumberedTurn (P : ℕ → Type 0) : Turn → Type 0 where
  on : {least : ℕ} → NumberedTurn P (On least)
  met : {hit : Hit} {least : ℕ} → NumberedTurn P (Met hit least)
  ends : {mark least : ℕ} → NumberedTurn P (Stopped mark least)
  stops : {n : ℕ} → P n → NumberedTurn P (Refused n)

module _ {P : ℕ → Type 0} where
  judged_turn_numbered : (r : Row) {judgement : Judgement} → NumberedJudgement P judgement → NumberedTurn P (judged_turn r judgement)
  unfolding judged_turn
  judged_turn_numbered r (judged {v = verdict}) = either (NumberedTurn P) (eqb (kind_of verdict) 0) on met
  judged_turn_numbered r unjudged = ends
  judged_turn_numbered r (not_judged h) = stops h

  pub row_turn_numbered : (judge : ℕ → ℕ → Judgement) (fix : Point) → ((place least : ℕ) → NumberedJudgement P (judge place least)) → (r : Row) (least : ℕ) → NumberedTurn P (row_turn judge fix r least)
  unfolding row_turn
  row_turn_numbered judge fix judges r least = either (NumberedTurn P) (holds r.bounds fix) (judged_turn_numbered r (judges r.polygon least)) on

  -- 17 where there is no room
  pub after_turn_numbered : P 17 → {turn : Turn} (hits : List Hit) (room : ℕ) {go : ℕ → List Hit → Reply Found} → NumberedTurn P turn
      → ((least : ℕ) (hits : List Hit) → NumberedReply P (go least hits)) → NumberedReply P (after_turn turn hits room go)
  after_turn_numbered full hits room (on {least}) k = k least hits
  after_turn_numbered full hits room (met {hit} {least}) k = either (NumberedReply P) (ltb (length hits) room) (k least (hits ++ hit ∷ [])) (refuses full)
  after_turn_numbered full hits room ends k = answers
  after_turn_numbered full hits room (stops h) k = refuses h

  pub replied_numbered : {A : Type 0} (n room : ℕ) {reply : Reply (Outcome A)} → NumberedReply P reply → NumberedReply P (replied_of n room reply).reply
  unfolding replied_of
  replied_numbered n room answers = answers
  replied_numbered n room (refuses h) = refuses h

-- ---- the fields of matches: a string's numbers, 15, and 18 where there is no room
module _ {P : ℕ → Type 0} (twelve : P 12) (fourteen : P 14) (fifteen : P 15) (eighteen : P 18) (file : List ℕ) (head : Head) (cut : head.strict ≡ true → P 31) where
  field_numbered : (metadata place tag room : ℕ) → NumberedReply P (field_at head.strict file metadata place tag room)
  unfolding field_at
  field_numbered metadata place tag room =
      then_reply (text_numbered twelve fourteen head.strict cut file metadata place _ fifteen)
      (λ text. and_then (demands (leb (length (field tag (bytes_of file text))) room) (plain 18) eighteen) answers)

  fields_numbered : (room more tag place : ℕ) (text : List ℕ) → NumberedReply P (fields_from file head room more tag place text)
  unfolding fields_from
  fields_numbered room zero tag place text = answers
  fields_numbered room (suc more) tag place text =
      then_reply (field_numbered head.sections.metadata place tag (room - length text)) (λ field. fields_numbered room more (tag + 1) field.next (text ++ field.bytes))

  pub fields : (room : ℕ) (matches : List Hit) (text : List ℕ) → NumberedReply P (fields_of file head room matches text)
  unfolding fields_of
  fields room [] text = answers
  fields room (match ∷ matches) text = then_reply (fields_numbered room head.preamble.count 0 (fields_place head match.metadata) text) (fields room matches)

-- ---- the search of a table
module _ (strict : Bool) (judge : ℕ → ℕ → Judgement) (fix : Point) (judges : (place least : ℕ) → NumberedJudgement (Known strict) (judge place least)) where
  seeks : (end room : ℕ) (rows : Rows) → NumberedRows strict rows → (least : ℕ) (hits : List Hit) → NumberedReply (Known strict) (seek judge fix end room rows least hits)
  unfolding seek
  seeks end room (row r rows) h least hits =
      either (NumberedReply (Known strict)) (is_above r.bounds fix) answers (after_turn_numbered refl hits room (row_turn_numbered judge fix judges r least) (seeks end room rows h))
  seeks end room table_end h least hits = answers
  seeks end room unreadable h least hits = answers
  seeks end room (T.refused n) h least hits = refuses h

searches : (file : List ℕ) (head : Head) (fix : Point) (asked : Bool) (room : ℕ) → NumberedReply (Known head.strict) (searched file head fix asked room)
unfolding searched rows_in
searches file head fix asked room =
    seeks head.strict (judge_in file head fix asked) fix (λ place least. judged_numbered refl refl file _ (cut head.strict) _ _ _ asked least) _ room _
    (rows_read head.strict file head.sections.metadata _) farthest []

-- ---- what both lookups begin with
matched_numbered : (file : List ℕ) (head : Head) (location : Location) (asked : Bool) (room : ℕ) → NumberedReply (Known head.strict) (matched_with file head location asked room)
unfolding matched_with
matched_numbered file head location asked room =
    and_then (demands (is_precision head.preamble.precision) (plain 16) refl) (then_reply (searches file head (fix_of location head.preamble.precision) asked room) (λ found. answers))

text_read : (strict : Bool) (file : List ℕ) (metadata place : ℕ) (blame : Blame) → Known strict blame.number → NumberedReply (Known strict) (text_at strict file metadata place blame)
text_read strict file = text_numbered refl refl strict (cut strict) file

-- ---- a file that is opened first
-- what was opened so is read so
opened_by : {B : Type 0} (strict : Bool) (file : List ℕ) (next : Head → Reply B) → ((head : Head) → NumberedReply (Known head.strict) (next head))
    → NumberedReply (Known strict) (head_by strict file >>= next)
opened_by strict file next k =
    then_with (head_numbered (known strict) strict (cut strict) file) (λ head e. subst (λ (s : Bool). NumberedReply (Known s) (next head)) (head_strict strict file e) (k head))

zones_numbered : (strict : Bool) (file : List ℕ) (location : Location) (asked : Bool) (n room : ℕ) → NumberedReply (Known strict) (zones_by (head_by strict file) file location asked n room)
unfolding zones_with
zones_numbered strict file location asked n room =
    opened_by strict file _ (λ head. then_reply (matched_numbered file head location asked (n / width)) (λ found. then_reply (fields refl refl refl refl file
    head (cut head.strict) room found.matches []) (λ text. answers)))

-- a lookup that is not answered is refused with one of these
pub lookup_refusals : (file : List ℕ) (location : Location) (asked : Bool) (n room : ℕ) (why : Refusal) → (looked_up file location asked n room).reply ≡ refused why → Listed lookup_numbers why.number
unfolding looked_up zones_in
lookup_refusals file location asked n room why = number_of_lem (replied_numbered n room (zones_numbered false file location asked n room))

-- and a strict one with one of these or 31
pub strict_lookup_refusals : (file : List ℕ) (location : Location) (asked : Bool) (n room : ℕ) (why : Refusal)
    → (looked_strictly file location asked n room).reply ≡ refused why → Listed (lookup_numbers ++ 31 ∷ []) why.number
unfolding looked_strictly
strict_lookup_refusals file location asked n room why = number_of_lem (replied_numbered n room (zones_numbered true file location asked n room))

-- ---- simple lookup
module _ (file : List ℕ) (head : Head) where
  picks : (more index names values : ℕ) (last : Picked) → NumberedReply (Known head.strict) (picked_from file head more index names values last)
  unfolding picked_from
  picks zero index names values last = answers
  picks (suc more) index names values last =
      then_reply (text_read head.strict file 0 names (blame_of head.preamble.count index) (blame_numbered (known head.strict) head.preamble.count index))
      (λ called. then_reply (text_read head.strict file head.sections.metadata values _ refl) (λ value. picks more (index + 1) called.next value.next _))

  picked : (match : Hit) → NumberedReply (Known head.strict) (picked_of file head match)
  picked match = picks head.preamble.count 0 7 (fields_place head match.metadata) _

  checks : (matches : List Hit) → NumberedReply (Known head.strict) (checked file head matches)
  unfolding checked
  checks [] = answers
  checks (match ∷ matches) = then_reply (picked match) (λ found. checks matches)

  -- the wanted fields of a metadata id
  pub described_at : (metadata : ℕ) → NumberedReply (Known head.strict) (description_at file head metadata)
  described_at metadata = then_reply (picks head.preamble.count 0 7 (fields_place head metadata) _) (λ found. answers)

  describes : (matches : List Hit) → NumberedReply (Known head.strict) (description_of file head matches)
  unfolding description_of
  describes [] = answers
  describes (match ∷ matches) = described_at match.metadata

  words : (room : ℕ) (matches : List Hit) → NumberedReply (Known head.strict) (worded_of file head room matches)
  unfolding worded_of
  words room matches =
      then_reply (describes matches) (λ description. then_reply (and_then (demands (leb (length (bytes_in description)) room) (plain 18) refl) answers) (λ bytes. answers))

described_numbered : (file : List ℕ) (location : Location) (n room : ℕ) → NumberedReply (Known false) (described_in file location n room)
unfolding described_in described_with
described_numbered file location n room =
    opened_by false file _ (λ head. then_reply (matched_numbered file head location false (n / width)) (λ found. and_then (checks file head found.matches)
    (then_reply (words file head room found.matches) (λ description. answers))))

-- a simple lookup that is not answered is refused with one of these
pub simple_lookup_refusals : (file : List ℕ) (location : Location) (n room : ℕ) (why : Refusal) → (simply_looked file location n room).reply ≡ refused why → Listed lookup_numbers why.number
unfolding simply_looked
simple_lookup_refusals file location n room why = number_of_lem (replied_numbered n room (described_numbered file location n room))
