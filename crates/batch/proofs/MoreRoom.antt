-- More room changes no answer: a lookup that is answered in some words and bytes is answered alike in more of them. Assumes nothing.
use Rattle.numbers.proofs.Prelude.{ℕ, zero, suc, ◌+◌, ◌-◌, ◌/◌, ◌≤◌, lt-ltb, le-leb, leb-true, ltb-true, ltb, leb, length, drop, Bool, true, false, List, [], ◌∷◌, ◌++◌, ◌≡◌, refl, sym, ap, ◌∙◌}
use Rattle.numbers.{proofs.{Prelude.{arith}, Replies.{given_from, onward, demanded, met}}, specs.{Answer.{if◌then◌else◌}, Reply.{Reply, given, plain, demand, ◌>>◌}}}
use Rattle.verdict.specs.Verdict.{Judgement}
use Rattle.border.specs.declared.place.Point.{Point}
use Rattle.header.specs.{Field.{field, field_at}, Text.{text_at, bytes_of}, declared.header.Head.{Head}}
use Rattle.zones.specs.Fields.{fields_place, fields_from, fields_of}
use Rattle.atlas.specs.{Beside.{matched_beside, zones_beside}, Looked.{parts_of, part_in, matched_atlas}}
use Rattle.index.specs.Index.{records_at}
use Rattle.table.specs.{Find.{is_precision, fix_of, matched_by, matched_with}, Hits.{width}, MarkedRows.{judge_numbered, rows_numbered, searched_marked, matched_marked}, Rest.{rest_mark}}
use Rattle.table.specs.{Rows.{Rows, row, table_end, unreadable, rows_in}, Search.{Found, ended, farthest, after_turn, row_turn, seek, judge_in, searched}, Table.{is_above}, Unstopped.{seek_all}}
use Rattle.table.specs.declared.{hits.Hit.{Hit}, location.Location.{Location}, search.Turn.{Turn, TheVariants.{On, Met, Stopped, Refused}}}
use Rattle.numbers.specs.Reply as R
use Rattle.table.specs.Rows as T

-- what one gives, the other gives
abbrev Still : {A : Type 0} → Reply A → Reply A → Type 0
Still {A} less more = (a : A) → given a ≡ less → given a ≡ more

-- a demand that holds of less holds of more
still_demand : {A : Type 0} (s t : Bool) (n : ℕ) (rest : Reply A) → (s ≡ true → t ≡ true) → Still (demand s (plain n) >> rest) (demand t (plain n) >> rest)
still_demand s t n rest so a e = let d = demanded s (plain n) e in d.1 ∙ ap (λ (x : Bool). demand x (plain n) >> rest) (sym (so d.0))

-- ---- the search
module _ (judge : ℕ → ℕ → Judgement) (fix : Point) (end : ℕ) {room room' : ℕ} (h : room ≤ room') where
  turn_still : (turn : Turn) (hits : List Hit) (go go' : ℕ → List Hit → Reply Found) → ((least : ℕ) (hits : List Hit) → Still (go least hits) (go' least hits))
      → Still (after_turn turn hits room go) (after_turn turn hits room' go')
  turn_still (On least) hits go go' rest found e = rest least hits found e
  turn_still (Met hit least) hits go go' rest found e = slot (ltb (length hits) room) refl e where
    slot : (t : Bool) → ltb (length hits) room ≡ t → given found ≡ (if t then go least (hits ++ hit ∷ []) else R.refused (plain 17))
        → given found ≡ (if ltb (length hits) room' then go' least (hits ++ hit ∷ []) else R.refused (plain 17))
    slot true is e =
        rest least (hits ++ hit ∷ []) found e
        ∙ ap (λ (t : Bool). if t then go' least (hits ++ hit ∷ []) else R.refused (plain 17)) (sym (lt-ltb (length hits) room' (omega (arith, h, ltb-true (length hits) room is))))
    slot false is e = let z : ◌≡◌ {A = ℕ} 0 1 = cc in absurd (omega arith)
  turn_still (Stopped mark least) hits go go' rest found e = e
  turn_still (Refused n) hits go go' rest found e = e

  seek_still : (rows : Rows) (least : ℕ) (hits : List Hit) → Still (seek judge fix end room rows least hits) (seek judge fix end room' rows least hits)
  unfolding seek
  seek_still (row r rows) least hits found e = above (is_above r.bounds fix) (seek_still rows) e where
    above : (t : Bool) → ((least : ℕ) (hits : List Hit) → Still (seek judge fix end room rows least hits) (seek judge fix end room' rows least hits))
        → given found ≡ (if t then ended hits (rest_mark end fix (row r rows)) least else after_turn (row_turn judge fix r least) hits room (seek judge fix end room rows))
        → given found ≡ (if t then ended hits (rest_mark end fix (row r rows)) least else after_turn (row_turn judge fix r least) hits room' (seek judge fix end room' rows))
    above true rest e = e
    above false rest e = turn_still (row_turn judge fix r least) hits (seek judge fix end room rows) (seek judge fix end room' rows) rest found e
  seek_still table_end least hits found e = e
  seek_still unreadable least hits found e = e
  seek_still (T.refused n) least hits found e = e

  all_still : (rows : Rows) (least : ℕ) (hits : List Hit) → Still (seek_all judge fix room rows least hits) (seek_all judge fix room' rows least hits)
  unfolding seek_all
  all_still (row r rows) least hits found e = turn_still (row_turn judge fix r least) hits (seek_all judge fix room rows) (seek_all judge fix room' rows) (all_still rows) found e
  all_still table_end least hits found e = e
  all_still unreadable least hits found e = e
  all_still (T.refused n) least hits found e = e

-- merged after a search
module _ (head : Head) (location : Location) where
  by_still : (search search' : Point → Reply Found) → ((fix : Point) → Still (search fix) (search' fix)) → Still (matched_by head location search) (matched_by head location search')
  by_still search search' so m e = let fix = fix_of location head.preamble.precision in
      let d = demanded (is_precision head.preamble.precision) (plain 16) e in let s = given_from (search fix) _ d.1 in
      s.onto ∙ onward (so fix s.it s.is) _ ∙ met d.0 (plain 16) _

module _ (file : List ℕ) (head : Head) (location : Location) (asked : Bool) {room room' : ℕ} (h : room ≤ room') where
  with_still : Still (matched_with file head location asked room) (matched_with file head location asked room')
  unfolding matched_with searched
  with_still = by_still head location _ _ (λ fix found. seek_still (judge_in file head fix asked) fix head.sections.metadata h (rows_in file head) farthest [] found)

  marked_still : (records numbers marks : List ℕ) → Still (matched_marked file head location asked records numbers marks room) (matched_marked file head location asked records numbers marks room')
  unfolding matched_marked searched_marked
  marked_still records numbers marks =
      by_still head location _ _ (λ fix found. all_still (judge_numbered file head fix asked records marks) fix 0 h (rows_numbered records numbers) farthest [] found)

  atlas_still : (words : List ℕ) → Still (matched_atlas file head words location asked room) (matched_atlas file head words location asked room')
  unfolding matched_atlas
  atlas_still words m e = let p = given_from (parts_of (length file) head words location) _ e in
      marked_still (part_in words records_at p.it.behind) (part_in words p.it.from p.it.end) (drop p.it.beside words) m p.onto ∙ onward p.is _

beside_still : (file : List ℕ) (head : Head) (words : List ℕ) (location : Location) (asked : Bool) {room room' : ℕ} → room ≤ room'
    → Still (matched_beside file head words location asked room) (matched_beside file head words location asked room')
unfolding matched_beside
beside_still file head [] location asked h = with_still file head location asked h
beside_still file head (word ∷ words) location asked h = atlas_still file head location asked h (word ∷ words)

-- ---- the fields
module _ (file : List ℕ) (head : Head) {room room' : ℕ} (h : room ≤ room') where
  field_still : (place tag used : ℕ) → Still (field_at head.strict file head.sections.metadata place tag (room - used))
      (field_at head.strict file head.sections.metadata place tag (room' - used))
  unfolding field_at
  field_still place tag used out e =
      let text = given_from (text_at head.strict file head.sections.metadata place (record { number = 15; detail = 0 })) _ e in
      let size = length (field tag (bytes_of file text.it)) in
      still_demand (leb size (room - used)) (leb size (room' - used)) 18 _ (λ t. le-leb size (room' - used) (omega (arith, h, leb-true size (room - used) t))) out text.onto ∙ onward text.is _

  from_still : (more tag place : ℕ) (text : List ℕ) → Still (fields_from file head room more tag place text) (fields_from file head room' more tag place text)
  unfolding fields_from
  from_still zero tag place text out e = e
  from_still (suc more) tag place text out e =
      let one = given_from (field_at head.strict file head.sections.metadata place tag (room - length text)) _ e in
      from_still more (tag + 1) one.it.next (text ++ one.it.bytes) out one.onto ∙ onward (field_still place tag (length text) one.it one.is) _

  fields_still : (matches : List Hit) (text : List ℕ) → Still (fields_of file head room matches text) (fields_of file head room' matches text)
  unfolding fields_of
  fields_still [] text out e = e
  fields_still (match ∷ matches) text out e =
      let one = given_from (fields_from file head room head.preamble.count 0 (fields_place head match.metadata) text) _ e in
      fields_still matches one.it out one.onto ∙ onward (from_still head.preamble.count 0 (fields_place head match.metadata) text one.it one.is) _

-- ---- a lookup
-- What is answered in less room is answered alike in more.
pub more_room : (file : List ℕ) (head : Head) (words : List ℕ) (location : Location) (asked : Bool) {n n' room room' : ℕ} → n ≤ n' → room ≤ room'
    → Still (zones_beside file head words location asked n room) (zones_beside file head words location asked n' room')
unfolding zones_beside
more_room file head words location asked {n} {n'} {room} {room'} h k o e = let m = given_from (matched_beside file head words location asked (n / width)) _ e in
    let t = given_from (fields_of file head room m.it.matches []) _ m.onto in
    t.onto ∙ onward (fields_still file head k m.it.matches [] t.it t.is) _ ∙ onward (beside_still file head words location asked (omega (arith, h)) m.it m.is) _
