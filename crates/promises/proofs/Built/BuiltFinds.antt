-- A lookup in a built file finds each yard where its border alone says, with its values. Assumes nothing.
use Rattle.numbers.proofs.Prelude.{ℕ, ◌+◌, ◌-◌, ◌/◌, ◌%◌, ◌^◌, eqb-true, eqb, ltb, leb, length, Bool, true, false, List, [], ◌∷◌, ◌++◌, append_assoc, append-nil, flat_map, zip_with, ◌≡◌}
use Rattle.numbers.proofs.Prelude.{refl, sym, ap}
use Rattle.numbers.{proofs.{Prelude.{subst, ◌∙◌, arith}, Replies.{given_from, demanded}, Tests.{both}}, specs.{Answer.{if◌then◌else◌}, Reply.{Reply, given, plain, ◌>>=◌}}}
use Rattle.border.specs.declared.place.Point.{Point}
use Rattle.verdict.specs.{Verdict.{Judgement, reached}, declared.step.Verdict.{Verdict, TheVariants.{NotInZone}}}
use Rattle.writer.specs.Writer.{every}
use Rattle.builder.specs.{Borders.{Drawn}, File.{Room, built_of}, Metadata.{records_of, start_of}, Yards.{Text, Yard, Plan}}
use Rattle.promises.proofs.Built.{BuiltOpens.{head_is}, Comes.{alone_comes, any_distance}, Fields.{at_record, fields_read}, InOrder.{in_order}, Judged.{judged_alone_lem, outside_alone}}
use Rattle.promises.proofs.Built.{Matches.{Sat, SatOf, alone_sat, merged_sat, Means, sat_means}, NearBorders.{ComesTo}, Parts.{Built, built_from, at_metadata, file_length}}
use Rattle.promises.proofs.Built.Seating.{Sits, entered_at, south_of, all_sit, start_within, rows_are}
use Rattle.layout.proofs.Everyone.{Every, every_both, every_sorted}
use Rattle.promises.specs.Built.Finds.{judged_alone, Alone, Nearest, outside, held, fields_out, fields_into, values_at, strings_of, Valued, Finds}
use Rattle.promises.specs.Built.Seats.{Entered, entered_of, Seat, bounds_in, seats_from, table_in, metadata_in, table_place, head_in, seats_of, rows_of}
use Rattle.table.{proofs.{InOrder.{early_stop_loses_nothing}, Merged.{Each}, Turns.{after_judged, after_outside, after_held, seek_row, seek_end}}, specs.Ending.{hits_of}}
use Rattle.table.specs.{Find.{fix_of, is_precision, Matched, matched_with}, Hits.{width}, Merge.{merged}}
use Rattle.table.specs.Search.{kind_of, row_hit, judged_turn, Found, after_turn, row_turn, farthest, judge_in, searched}
use Rattle.table.specs.{Table.{holds}, Unstopped.{seek_all}, declared.{hits.Hit.{Hit}, location.Location.{Location}}}
use Rattle.header.specs.{Field.{field}, declared.header.Head.{Head}}
use Rattle.zones.specs.{Fields.{fields_place, fields_from, fields_of}, Lent.{Outcome}, Lookup.{safezone_bits, zones_with, zones_in}, declared.lookup.Zones.{Zones}}
use Rattle.promises.proofs.Built.NearBorders as Comes
use Rattle.promises.specs.Built.Finds as F
use Rattle.numbers.specs.Reply as R
use Rattle.table.proofs.Merged as M
use Rattle.verdict.specs.Verdict as V

-- ---- the search
-- a search of some yards that found, behind some hits
pub record Visits (fix : Point) (asked : Bool) (seats : List Seat) (least : ℕ) (hits : List Hit) (found : Found) : Type 0 where
  pub mark : found.mark ≡ 1
  pub new : List Hit
  pub is : found.hits ≡ hits ++ new
  pub alone : Alone fix seats new
  pub nearest : Nearest fix asked seats least found.least

module _ (plan : Plan) (room : Room) (file : List ℕ) (b : Built plan room file) (fix : Point) (asked : Bool) (slots : ℕ) where
  abbrev drawn : Drawn
  drawn = b.drawn

  abbrev head : Head
  head = head_in false plan drawn

  abbrev judging : ℕ → ℕ → Judgement
  judging = judge_in file head fix asked

  -- one yard
  module _ (e : Entered) (s : Sits plan drawn e) (seat : Seat) (same_yard : seat.yard ≡ e.yard) (same_place : seat.at.polygon ≡ e.entry.border)
      (same_box : seat.at.bounds ≡ bounds_in e.entry.bounds) (seats : List Seat) (least : ℕ) (hits : List Hit) (found : Found) (go : ℕ → List Hit → Reply Found)
      (later : (closer : ℕ) (more : List Hit) → given found ≡ go closer more → Visits fix asked seats closer more found) where
    alone_is : (a : Bool) (l : ℕ) → judged_alone seat.yard fix a l ≡ judged_alone e.yard fix a l
    alone_is a l = ap (λ y. judged_alone y fix a l) same_yard

    visit_outside : holds seat.at.bounds fix ≡ false → given found ≡ go least hits → Visits fix asked (seat ∷ seats) least hits found
    visit_outside out is = let v = later least hits is in let clear = subst (λ bounds. holds bounds fix ≡ false) same_box out in record {
      mark = v.mark;
      new = v.new;
      is = v.is;
      alone = F.next NotInZone (λ d. alone_is false d ∙ outside_alone plan room file b e s fix d clear) v.alone;
      nearest = outside out v.nearest;
    }

    module _ (in_box : holds seat.at.bounds fix ≡ true) (verdict : Verdict) (closer : ℕ) (comes_to : judged_alone seat.yard fix asked least ≡ reached verdict closer) where
      alone_so : {new : List Hit} → Alone fix seats new → Alone fix (seat ∷ seats) (hits_of seat.at verdict ++ new)
      alone_so rest = let within = subst (λ bounds. holds bounds fix ≡ true) same_box in_box in
          F.next verdict (λ d. alone_is false d ∙ any_distance plan room file b e s fix asked least closer verdict within (sym (alone_is asked least) ∙ comes_to) d) rest

      visit_kind : (t : Bool) → eqb (kind_of verdict) 0 ≡ t → given found ≡ (if t then go closer hits else (if ltb (length hits) slots then go closer
          (hits ++ (row_hit seat.at (kind_of verdict) ∷ [])) else R.refused (plain 17))) → Visits fix asked (seat ∷ seats) least hits found
      visit_kind true k is = let v = later closer hits is in record {
        mark = v.mark;
        new = v.new;
        is = v.is;
        alone = subst (λ h. Alone fix (seat ∷ seats) (h ++ v.new)) (ap (λ t. if t then [] else (row_hit seat.at (kind_of verdict) ∷ [])) k)
            (alone_so v.alone);
        nearest = held in_box comes_to v.nearest;
      }
      visit_kind false k is = by_room (ltb (length hits) slots) is where
        hit : Hit
        hit = row_hit seat.at (kind_of verdict)

        by_room : (t : Bool) → given found ≡ (if t then go closer (hits ++ (row_hit seat.at (kind_of verdict) ∷ [])) else R.refused (plain 17)) → Visits fix asked (seat ∷ seats) least hits found
        by_room false is = let z : ◌≡◌ {A = ℕ} 0 1 = cc in absurd (omega arith)
        by_room true is = let v = later closer (hits ++ (row_hit seat.at (kind_of verdict) ∷ [])) is in record {
          mark = v.mark;
          new = row_hit seat.at (kind_of verdict) ∷ v.new;
          is = v.is ∙ append_assoc hits (row_hit seat.at (kind_of verdict) ∷ []) v.new;
          alone = subst (λ h. Alone fix (seat ∷ seats) (h ++ v.new)) (ap (λ t. if t then [] else (row_hit seat.at (kind_of verdict) ∷ [])) k) (alone_so v.alone);
          nearest = held in_box comes_to v.nearest;
        }

    visit_judged : holds seat.at.bounds fix ≡ true → (j : Judgement) → judged_alone seat.yard fix asked least ≡ j → ComesTo j → given found ≡ after_turn (judged_turn seat.at j) hits slots go
        → Visits fix asked (seat ∷ seats) least hits found
    visit_judged in_box (V.failed n) is comes e = elim comes [ ]
    visit_judged in_box (V.refused n) is comes e = elim comes [ ]
    visit_judged in_box (reached verdict closer) is Comes.verdict e = visit_kind in_box verdict closer is (eqb (kind_of verdict) 0) refl (e ∙ after_judged seat.at hits slots go verdict closer)

    visit_one : given found ≡ after_turn (row_turn judging fix seat.at least) hits slots go → Visits fix asked (seat ∷ seats) least hits found
    visit_one is = by_box (holds seat.at.bounds fix) refl where
      as_alone : judging seat.at.polygon least ≡ judged_alone seat.yard fix asked least
      as_alone = ap (λ p. judging p least) same_place ∙ (judged_alone_lem plan room file b e s fix asked least ∙ sym (alone_is asked least))

      comes : holds seat.at.bounds fix ≡ true → ComesTo (judged_alone seat.yard fix asked least)
      comes in_box = subst ComesTo (sym (alone_is asked least)) (alone_comes plan room file b e s fix asked least (subst (λ bounds. holds bounds fix ≡ true) same_box in_box))

      by_box : (t : Bool) → holds seat.at.bounds fix ≡ t → Visits fix asked (seat ∷ seats) least hits found
      by_box true in_box =
          visit_judged in_box (judged_alone seat.yard fix asked least) refl (comes in_box)
          (is ∙ (after_held seat.at hits slots go judging fix least in_box ∙ ap (λ j. after_turn (judged_turn seat.at j) hits slots go) as_alone))
      by_box false out = visit_outside out (is ∙ after_outside seat.at hits slots go judging fix least out)

  visit : (es : List Entered) → Every (Sits plan drawn) es → (place id r border least : ℕ) (hits : List Hit) (found : Found)
      → given found ≡ seek_all judging fix slots (rows_of (seats_from place id r border es)) least hits → Visits fix asked (seats_from place id r border es) least hits found
  unfolding Every seats_from rows_of
  visit [] sit place id r border least hits found is = let ends = is ∙ seek_end judging fix slots least hits in
      let same : found ≡ record { hits = hits; mark = 1; least = least } = cc in
      subst (Visits fix asked [] least hits) (sym same) (record { mark = refl; new = []; is = sym (append-nil hits); alone = F.no_more; nearest = F.no_more })
  visit (e ∷ es) sit place id r border least hits found is =
      visit_one e sit.0 _ refl refl refl _ least hits found _ (λ closer more later. visit es sit.1 _ (id + 1) e.entry.record' e.entry.border
      closer more found later) (is ∙ seek_row judging fix slots least hits _ _)

  pub search_all : searched file head fix asked slots ≡ seek_all judging fix slots (rows_of (seats_of plan drawn)) farthest []
  unfolding searched head_in
  search_all = rw (rows_are plan room file b false) (early_stop_loses_nothing _ fix judging slots (in_order plan room file b).1 farthest [])

  pub searched_visits : (found : Found) → given found ≡ searched file head fix asked slots → Visits fix asked (seats_of plan drawn) farthest [] found
  unfolding seats_of
  searched_visits found is = visit (entered_of plan drawn) (all_sit plan room file b) (table_place plan drawn) 0 0 0 farthest [] found (is ∙ search_all)

-- ---- the strings
into_out : (room tag : ℕ) (values : List Text) (text out : List ℕ) → given out ≡ fields_into room tag values text → out ≡ text ++ fields_out tag values
unfolding fields_into fields_out
into_out room tag [] text out e = let same : out ≡ text = cc in same ∙ sym (append-nil text)
into_out room tag (v ∷ values) text out e = let fits = demanded (leb (length (field tag v)) (room - length text)) (plain 18) e in
    into_out room (tag + 1) values (text ++ field tag v) out fits.1 ∙ append_assoc text (field tag v) (fields_out (tag + 1) values)

module _ (plan : Plan) (room : Room) (file : List ℕ) (b : Built plan room file) (valued : Valued plan) where
  abbrev values_counted : Entered → Type 0
  values_counted e = length e.yard.values ≡ length plan.names

  counted_from : (yards : List Yard) (places : List ℕ) → every (λ (y : Yard). eqb (length y.values) (length plan.names)) yards ≡ true
      → Every values_counted (zip_with (entered_at plan) yards places)
  unfolding zip_with Every every
  counted_from [] places h = tt
  counted_from (yard ∷ yards) [] h = tt
  counted_from (yard ∷ yards) (place ∷ places) h = let now = both (eqb (length yard.values) (length plan.names)) _ h in
      (eqb-true (length yard.values) (length plan.names) now.0, counted_from yards places now.1)

  all_counted : Every values_counted (entered_of plan b.drawn)
  unfolding entered_of
  all_counted = every_sorted (south_of plan b.drawn) values_counted _ (counted_from plan.yards b.drawn.places valued)

  abbrev Yards : Entered → Type 0
  Yards e = Sits plan b.drawn e × values_counted e

  abbrev seats : List Seat
  seats = seats_of plan b.drawn

  means : (number metadata : ℕ) → Sat number metadata seats → Means Yards seats number metadata
  unfolding seats_of
  means number metadata s =
      sat_means Yards number metadata (entered_of plan b.drawn) (every_both (Sits plan b.drawn) values_counted (entered_of plan b.drawn)
      (all_sit plan room file b) all_counted) (table_place plan b.drawn) 0 0 0 s

  module _ (strict : Bool) (lent : ℕ) where
    abbrev own : Head
    own = head_in strict plan b.drawn

    -- the fields of a match are the values of its yard
    pub match_fields : (number metadata : ℕ) → Sat number metadata seats → (text : List ℕ)
        → fields_from file own lent (length plan.names) 0 (fields_place own metadata) text ≡ fields_into lent 0 (values_at seats number) text
    unfolding head_in metadata_in
    match_fields number metadata s text =
        let m = means number metadata s in
        let e = m.entered in
        let records = records_of plan.yards in
        let begin = table_place plan b.drawn + length (table_in plan b.drawn) in
        let here = at_metadata plan b.drawn file b.is in
        let start : metadata ≡ start_of records e.yard.values = m.record_is ∙ ap (λ entry. entry.record') m.so.0.is in
        let place : (begin + metadata) % 2 ^ 32 ≡ begin + start_of records e.yard.values = omega
        (arith, start, start_within records e.yard.values m.so.0.known, file_length plan b.drawn file b.is, b.small) in
        ap (λ (k : ℕ). fields_from file own lent k 0 ((begin + metadata) % 2 ^ 32) text) (sym m.so.1)
        ∙ ap (λ (p : ℕ). fields_from file own lent (length e.yard.values) 0 p text) place
        ∙ fields_read file b.small records begin here own refl lent e.yard.values m.so.0.texts 0 (begin + start_of records e.yard.values) text
        (at_record file b.small records begin here e.yard.values m.so.0.known)
        ∙ ap (λ (v : List Text). fields_into lent 0 v text) (sym m.values_are)

    pub all_strings : (matches : List Hit) → Each (SatOf seats) matches → (text out : List ℕ) → given out ≡ fields_of file own lent matches text → out ≡ text ++ flat_map (strings_of seats) matches
    unfolding fields_of flat_map head_in
    all_strings [] sat text out is = let same : out ≡ text = cc in same ∙ sym (append-nil text)
    all_strings (m ∷ matches) (M.next h hs) text out is =
        let first = given_from (fields_from file own lent own.preamble.count 0 (fields_place own m.metadata) text) _ is in
        let one = into_out lent 0 (values_at seats m.polygon) text first.it (first.is ∙ match_fields m.polygon m.metadata h text) in
        all_strings matches hs first.it out first.onto
        ∙ (ap (λ (l : List ℕ). l ++ flat_map (strings_of seats) matches) one ∙ append_assoc text (strings_of seats m) (flat_map (strings_of seats) matches))

-- ---- the matches
-- what the matches of a search are made of
pub record Gathered (plan : Plan) (drawn : Drawn) (location : Location) (asked : Bool) (m : Matched) : Type 0 where
  pub found : Found
  pub visits : Visits (fix_of location plan.precision) asked (seats_of plan drawn) farthest [] found
  pub is : m ≡ record { matches = merged found.hits; mark = found.mark; least = found.least }
  pub merges : m.matches ≡ merged visits.new
  pub sat : Each (SatOf (seats_of plan drawn)) m.matches

pub gathered : (plan : Plan) (room : Room) (file : List ℕ) (b : Built plan room file) (location : Location) (asked : Bool) (slots : ℕ) (m : Matched)
    → given m ≡ matched_with file (head_in false plan b.drawn) location asked slots → Gathered plan b.drawn location asked m
unfolding matched_with head_in
gathered plan room file b location asked slots m e = let fix = fix_of location plan.precision in
    let found = given_from (searched file (head_in false plan b.drawn) fix asked slots) _ (demanded (is_precision plan.precision) (plain 16) e).1 in
    let v = searched_visits plan room file b fix asked slots found.it found.is in
    let is : m ≡ record { matches = merged found.it.hits; mark = found.it.mark; least = found.it.least } = cc in
    let merges : m.matches ≡ merged v.new = ap (λ x. x.matches) is ∙ ap merged v.is in
    record { found = found.it; visits = v; is = is; merges = merges; sat = rw merges (merged_sat (seats_of plan b.drawn) (alone_sat v.alone)) }

-- ---- the lookup
module _ (plan : Plan) (room : Room) (file : List ℕ) (built : built_of plan room ≡ given file) (valued : Valued plan) (location : Location) (asked : Bool) (n lent : ℕ) where
  -- Every lookup in a built file that is not refused has mark 1, and finds each yard where its border alone says, with the yard's values.
  pub built_finds : (o : Outcome Zones) → zones_in file location asked n lent ≡ given o → Finds plan room location asked o
  unfolding zones_in zones_with head_in
  built_finds o e =
      let b = built_from plan room file built in
      let head = head_in false plan b.drawn in
      let opened : given o ≡ zones_with file head location asked n lent = sym e ∙ ap (λ (h : Reply Head). h >>= λ head. zones_with file head location asked n lent) (head_is plan room file b false) in
      let first = given_from (matched_with file head location asked (n / width)) _ opened in
      let g = gathered plan room file b location asked (n / width) first.it first.is in
      let text = given_from (fields_of file head lent first.it.matches []) _ first.onto in
      let result : o ≡ record {
        answer = record { matches = length first.it.matches; mark = first.it.mark; safezone = safezone_bits asked first.it.least plan.precision; used = length text.it };
        matches = first.it.matches;
        text = text.it;
      } = cc in
      let same : o.matches ≡ first.it.matches = ap (λ x. x.matches) result in
      record {
        drawn = b.drawn;
        draws = b.draws;
        marked = ap (λ x. x.answer.mark) result ∙ (ap (λ x. x.mark) g.is ∙ g.visits.mark);
        hits = g.visits.new;
        alone = g.visits.alone;
        merges = same ∙ g.merges;
        counted = ap (λ x. x.answer.matches) result ∙ ap length (sym same);
        strings = ap (λ x. x.text) result ∙ (all_strings plan room file b valued false lent first.it.matches g.sat [] text.it text.is
            ∙ ap (flat_map (strings_of (seats_of plan b.drawn))) (sym same));
        used = ap (λ x. x.answer.used) result ∙ ap length (sym (ap (λ x. x.text) result));
        least = g.found.least;
        nearest = g.visits.nearest;
        safezone = ap (λ x. x.answer.safezone) result ∙ ap (λ x. safezone_bits asked x.least plan.precision) g.is;
      }
