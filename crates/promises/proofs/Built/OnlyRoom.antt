-- A lookup in a built file is refused only for want of room: 17 or 18. Assumes nothing.
use Rattle.numbers.proofs.Prelude.{ℕ, ◌+◌, ◌-◌, ◌/◌, le-leb, leb-true, eqb, ltb, leb, length, Bool, true, false, ◌&&◌, List, [], ◌∷◌, ◌++◌, ◌≡◌, refl, sym, ap, subst, ◌∙◌, arith}
use Rattle.numbers.{proofs.{Refusals.{Listed}, Replies.{NumberedReply, answers, refuses, then_reply, and_then, demands, number_of_lem}, Tests.{both}}, specs.Answer.{if◌then◌else◌}}
use Rattle.numbers.specs.{Reply.{Reply, given, plain, ◌>>=◌}, declared.refusal.Refusal.{Refusal}}
use Rattle.border.specs.declared.place.Point.{Point}
use Rattle.verdict.specs.Verdict.{Judgement}
use Rattle.builder.specs.{Borders.{Drawn}, Entries.{entry_bytes}, File.{Room, known, built_of}, Yards.{Text, Plan}}
use Rattle.promises.proofs.Built.{BuiltFinds.{match_fields, gathered, search_all}, BuiltOpens.{head_is}, Comes.{alone_comes}, Judged.{judged_alone_lem}, Matches.{SatOf}}
use Rattle.promises.proofs.Built.{NearBorders.{ComesTo, verdict}, Parts.{Built, built_from}, Seating.{Sits, all_sit}}
use Rattle.layout.proofs.Everyone.{Every}
use Rattle.promises.specs.Built.{Finds.{fields_into, values_at, Valued}, Seats.{Entered, entered_of, bounds_in, seats_from, table_place, head_in, seats_of, rows_of}}
use Rattle.header.specs.{Field.{field}, declared.header.Head.{Head}}
use Rattle.zones.specs.{Fields.{fields_of}, Lookup.{zones_with, zones_in}}
use Rattle.table.{proofs.{Merged.{Each}, Turns.{after_judged, after_outside, after_held, seek_row, seek_end}}, specs.{Find.{fix_of, is_precision, matched_with}, Hits.{width}}}
use Rattle.table.specs.{Search.{kind_of, row_hit, judged_turn, Found, after_turn, row_turn, farthest, judge_in, searched}, Table.{holds}, Unstopped.{seek_all}, declared.hits.Hit.{Hit}}
use Rattle.table.specs.declared.{location.Location.{Location}, rows.Row.{Row}}
use Rattle.numbers.specs.Reply as R
use Rattle.table.proofs.Merged as M

abbrev pub NoRoom : ℕ → Type 0
NoRoom n = Listed (17 ∷ 18 ∷ []) n

-- what follows may go by what was given
then_known : {A B : Type 0} (r : Reply A) (k : A → Reply B) → NumberedReply NoRoom r → ((a : A) → given a ≡ r → NumberedReply NoRoom (k a)) → NumberedReply NoRoom (r >>= k)
then_known (given a) k h next = next a refl
then_known (R.refused why) k (refuses h) next = refuses h

module _ (plan : Plan) (room : Room) (file : List ℕ) (b : Built plan room file) where
  abbrev drawn : Drawn
  drawn = b.drawn

  -- ---- the search
  module _ (fix : Point) (asked : Bool) (slots : ℕ) where
    abbrev judging : ℕ → ℕ → Judgement
    judging = judge_in file (head_in false plan drawn) fix asked

    by_verdict : (r : Row) (hits : List Hit) (go : ℕ → List Hit → Reply Found) → ((least : ℕ) (more : List Hit) → NumberedReply NoRoom (go least more)) → {j : Judgement} → ComesTo j
        → NumberedReply NoRoom (after_turn (judged_turn r j) hits slots go)
    by_verdict r hits go later (verdict {v = v} {least = closer}) = subst (NumberedReply NoRoom) (sym (after_judged r hits slots go v closer)) (by_kind (eqb (kind_of v) 0)) where
      by_room : (t : Bool) → NumberedReply NoRoom (if t then go closer (hits ++ (row_hit r (kind_of v) ∷ [])) else R.refused (plain 17))
      by_room true = later closer (hits ++ (row_hit r (kind_of v) ∷ []))
      by_room false = refuses refl

      by_kind : (t : Bool) → NumberedReply NoRoom (if t then go closer hits else (if ltb (length hits) slots then go closer (hits ++ (row_hit r (kind_of v) ∷ [])) else R.refused (plain 17)))
      by_kind true = later closer hits
      by_kind false = by_room (ltb (length hits) slots)

    search_from : (es : List Entered) → Every (Sits plan drawn) es → (place id r border least : ℕ) (hits : List Hit)
        → NumberedReply NoRoom (seek_all judging fix slots (rows_of (seats_from place id r border es)) least hits)
    unfolding Every seats_from rows_of
    search_from [] sit place id r border least hits = subst (NumberedReply NoRoom) (sym (seek_end judging fix slots least hits)) answers
    search_from (e ∷ es) sit place id r border least hits =
        subst (NumberedReply NoRoom) (sym (seek_row judging fix slots least hits _ _))
        (by_box
        (record { place = place; id = id; metadata = e.entry.record'; polygon = e.entry.border; bounds = bounds_in e.entry.bounds; next = place + length (entry_bytes r border e.entry) })
        refl refl (holds (bounds_in e.entry.bounds) fix) refl (λ closer more. search_from es sit.1 _ (id + 1) e.entry.record' e.entry.border closer more)) where
          by_box : (at : Row) → at.polygon ≡ e.entry.border → at.bounds ≡ bounds_in e.entry.bounds → (t : Bool) → holds (bounds_in e.entry.bounds) fix ≡ t
              → {go : ℕ → List Hit → Reply Found} → ((closer : ℕ) (more : List Hit) → NumberedReply NoRoom (go closer more))
              → NumberedReply NoRoom (after_turn (row_turn judging fix at least) hits slots go)
          by_box at is box true in_box {go} later = let held = after_held at hits slots go judging fix least (ap (λ bounds. holds bounds fix) box ∙ in_box) in
              let alone = ap (λ p. judging p least) is ∙ judged_alone_lem plan room file b e sit.0 fix asked least in
              subst (NumberedReply NoRoom) (sym (held ∙ ap (λ j. after_turn (judged_turn at j) hits slots go) alone)) (by_verdict at hits go later
              (alone_comes plan room file b e sit.0 fix asked least in_box))
          by_box at is box false out {go} later = subst (NumberedReply NoRoom) (sym (after_outside at hits slots go judging fix least (ap (λ bounds. holds bounds fix) box ∙ out))) (later least hits)

    search_numbered : NumberedReply NoRoom (searched file (head_in false plan drawn) fix asked slots)
    unfolding seats_of
    search_numbered =
        subst (NumberedReply NoRoom) (sym (search_all plan room file b fix asked slots)) (search_from (entered_of plan drawn) (all_sit plan room file b) (table_place plan drawn) 0 0 0 farthest [])

  -- ---- the strings
  module _ (valued : Valued plan) (lent : ℕ) where
    into_numbered : (tag : ℕ) (values : List Text) (text : List ℕ) → NumberedReply NoRoom (fields_into lent tag values text)
    unfolding fields_into
    into_numbered tag [] text = answers
    into_numbered tag (v ∷ values) text = and_then (demands (leb (length (field tag v)) (lent - length text)) (plain 18) refl) (into_numbered (tag + 1) values (text ++ field tag v))

    strings_numbered : (matches : List Hit) → Each (SatOf (seats_of plan drawn)) matches → (text : List ℕ) → NumberedReply NoRoom (fields_of file (head_in false plan drawn) lent matches text)
    unfolding fields_of head_in
    strings_numbered [] sat text = answers
    strings_numbered (m ∷ matches) (M.next h hs) text =
        then_reply (subst (NumberedReply NoRoom) (sym (match_fields plan room file b valued false lent m.polygon m.metadata h text)) (into_numbered 0
        (values_at (seats_of plan drawn) m.polygon) text)) (λ more. strings_numbered matches hs more)

  matched_numbered : (location : Location) (asked : Bool) (slots : ℕ) → is_precision plan.precision ≡ true → NumberedReply NoRoom (matched_with file (head_in false plan drawn) location asked slots)
  unfolding matched_with head_in
  matched_numbered location asked slots precise = rw precise (then_reply (search_numbered (fix_of location plan.precision) asked slots) (λ found. answers))

-- Only 17 and 18 refuse a lookup in a built file: want of room for hits, or for strings.
pub only_room : (plan : Plan) (room : Room) (file : List ℕ) → built_of plan room ≡ given file → Valued plan → (location : Location) (asked : Bool) (n lent : ℕ) (why : Refusal)
    → zones_in file location asked n lent ≡ R.refused why → NoRoom why.number
unfolding zones_in zones_with known
only_room plan room file built valued location asked n lent why e = let b = built_from plan room file built in let head = head_in false plan b.drawn in
    let slots = n / width in let form = both (leb 1 plan.precision && leb plan.precision 31) _ b.forms in
    let range = both (leb 1 plan.precision) (leb plan.precision 31) form.0 in
    let precise : is_precision plan.precision ≡ true = rw (range.0, le-leb plan.precision 32 (omega (arith, leb-true plan.precision 31 range.1))) in
    let opened : zones_with file head location asked n lent ≡ R.refused why = sym (ap (λ (h : Reply Head). h >>= λ head. zones_with file head location asked n lent)
    (head_is plan room file b false)) ∙ e in
    number_of_lem (then_known (matched_with file head location asked slots) _ (matched_numbered plan room file b location asked slots precise)
    (λ m is. then_known (fields_of file head lent m.matches []) _ (strings_numbered plan room file b valued lent m.matches (gathered plan room file b
    location asked slots m is).sat []) (λ text said. answers))) opened
