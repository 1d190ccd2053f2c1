-- The distance asked for or not (request Q-2): the search, and lookup over it. Assumes nothing.
use Rattle.numbers.proofs.Prelude.{ℕ, ◌/◌, eqb, ltb, length, Bool, true, false, List, [], ◌∷◌, ◌++◌, ◌⊎◌, inl, inr, ◌≡◌, refl, sym, ap, subst, ◌∙◌, arith}
use Rattle.numbers.specs.{Answer.{if◌then◌else◌}, Reply.{Reply, given, refused, plain, ◌>>=◌}}
use Rattle.verdict.{proofs.Unasked.{Agrees, judged_asked_or_not}, specs.Verdict.{Judgement, reached}}
use Rattle.border.specs.declared.place.Point.{Point}
use Rattle.header.{proofs.Unless.{shown, Unless, refuses, alike, unless_after, unless_demand, unless_then}, specs.{Header.{head_of, head_strictly}, declared.header.Head.{Head}}}
use Rattle.zones.specs.{Fields.{fields_of}, Lent.{Outcome, Replied, replied, replied_of}}
use Rattle.zones.specs.{Lookup.{safezone_bits, zones_from, zones_with, zones_in, zones_listed, looked_with, looked_up, looked_strictly, looked_listed}, declared.lookup.Zones.{Zones}}
use Rattle.table.specs.{Find.{Matched, is_precision, fix_of, matched_by, matched_with}, GivenRows.{rows_listed, searched_listed, matched_listed}, Hits.{width}, Merge.{merged}, Rest.{rest_mark}}
use Rattle.table.specs.{Rows.{Rows, row, table_end, unreadable, rows_in}, Search.{Found, ended, kind_of, row_hit, farthest, after_turn, judged_turn, row_turn, seek, judge_in, searched}}
use Rattle.table.specs.{Table.{is_above, holds}, Unstopped.{seek_all}, declared.{hits.Hit.{Hit}, location.Location.{Location}, rows.Row.{Row}, search.Turn.TheVariants.{On, Met}}}
use Rattle.verdict.specs.Verdict as J
use Rattle.table.specs.Rows as T

-- an answer without its safezone bits
abbrev pub unmeasured : Zones → Zones
unmeasured zones = record { matches = zones.matches; mark = zones.mark; safezone = 0; used = zones.used }

-- all that a search finds but the distance
abbrev unmeasured_found : Found → Found
unmeasured_found found = record { hits = found.hits; mark = found.mark; least = 0 }

-- ---- the search, over any rows and any two ways to judge a border that agree but for the distance and 13
module _ (judge judge' : ℕ → ℕ → Judgement) (agree : (polygon least least' : ℕ) → Agrees least' (judge polygon least) (judge' polygon least')) (fix : Point) (room : ℕ) where
  abbrev Same : Reply Found → Reply Found → Type 0
  Same = Unless 13 unmeasured_found

  module _ (hits : List Hit) (go go' : ℕ → List Hit → Reply Found) (same : (least least' : ℕ) (hits : List Hit) → Same (go least hits) (go' least' hits)) where
    -- a border that is no hit, and one that is
    reached_same : (missed : Bool) (hit : Hit) (least least' : ℕ) → Same (after_turn (if missed then On least else Met hit least) hits room go)
        (after_turn (if missed then On least' else Met hit least') hits room go')
    reached_same true hit least least' = same least least' hits
    reached_same false hit least least' = slot (ltb (length hits) room) where
      slot : (test : Bool) → Same (if test then go least (hits ++ hit ∷ []) else refused (plain 17)) (if test then go' least' (hits ++ hit ∷ []) else refused (plain 17))
      slot true = same least least' (hits ++ hit ∷ [])
      slot false = alike refl

    judged_same : (r : Row) (j o : Judgement) (d : ℕ) → Agrees d j o → Same (after_turn (judged_turn r j) hits room go) (after_turn (judged_turn r o) hits room go')
    unfolding judged_turn
    judged_same r (reached verdict least) o d h = rw h (reached_same (eqb (kind_of verdict) 0) (row_hit r (kind_of verdict)) least d)
    judged_same r (J.failed least) o d h = rw h (alike refl)
    judged_same r (J.refused n) o d (inl h) = refuses (ap (λ (m : ℕ). refused (plain m)) h)
    judged_same r (J.refused n) o d (inr h) = rw h (alike refl)

    row_same : (r : Row) (least least' : ℕ) → Same (after_turn (row_turn judge fix r least) hits room go) (after_turn (row_turn judge' fix r least') hits room go')
    unfolding row_turn
    row_same r least least' = by_box (holds r.bounds fix) where
      by_box : (held : Bool) → Same (after_turn (if held then judged_turn r (judge r.polygon least) else On least) hits room go)
          (after_turn (if held then judged_turn r (judge' r.polygon least') else On least') hits room go')
      by_box true = judged_same r (judge r.polygon least) (judge' r.polygon least') least' (agree r.polygon least least')
      by_box false = same least least' hits

  -- a search with the distance is refused by 13, or finds what the one without it finds, but for the distance
  pub seek_unless : (end : ℕ) (rows : Rows) (least least' : ℕ) (hits : List Hit) → Same (seek judge fix end room rows least hits) (seek judge' fix end room rows least' hits)
  unfolding seek
  seek_unless end (row r rows) least least' hits =
      by_above (is_above r.bounds fix) (row_same hits (seek judge fix end room rows) (seek judge' fix end room rows) (seek_unless end rows) r least least') where
        by_above : (above : Bool) {on on' : Reply Found} → Same on on'
            → Same (if above then ended hits (rest_mark end fix (row r rows)) least else on) (if above then ended hits (rest_mark end fix (row r rows)) least' else on')
        by_above true h = alike refl
        by_above false h = h
  seek_unless end table_end least least' hits = alike refl
  seek_unless end unreadable least least' hits = alike refl
  seek_unless end (T.refused n) least least' hits = alike refl

  -- the same of the search that never stops early, as rows that an index gives are searched
  pub seek_all_unless : (rows : Rows) (least least' : ℕ) (hits : List Hit) → Same (seek_all judge fix room rows least hits) (seek_all judge' fix room rows least' hits)
  unfolding seek_all
  seek_all_unless (row r rows) least least' hits = row_same hits (seek_all judge fix room rows) (seek_all judge' fix room rows) (seek_all_unless rows) r least least'
  seek_all_unless table_end least least' hits = alike refl
  seek_all_unless unreadable least least' hits = alike refl
  seek_all_unless (T.refused n) least least' hits = alike refl

-- ---- in a file
-- all that is known of the matches but the distance
abbrev unmeasured_matched : Matched → Matched
unmeasured_matched found = record { matches = found.matches; mark = found.mark; least = 0 }

-- an outcome without its safezone bits
abbrev unmeasured_outcome : Outcome Zones → Outcome Zones
unmeasured_outcome o = record { answer = unmeasured o.answer; matches = o.matches; text = o.text }

module _ (file : List ℕ) (head : Head) (location : Location) where
  abbrev fix : Point
  fix = fix_of location head.preamble.precision

  -- the distance does not change how a border is judged here, but for a 13
  judged_unless : (polygon least least' : ℕ) → Agrees least' (judge_in file head fix true polygon least) (judge_in file head fix false polygon least')
  judged_unless polygon = judged_asked_or_not file _ _ fix.lat fix.lon

  found_unless : (asked not : Point → Reply Found) → Unless 13 unmeasured_found (asked fix) (not fix) → Unless 13 unmeasured_matched (matched_by head location asked) (matched_by head location not)
  found_unless asked not same =
      unless_demand (is_precision head.preamble.precision) (plain 16)
      (unless_then (asked fix) (not fix) same (λ a b same. alike (ap (λ (f : Found). given (record { matches = merged f.hits; mark = f.mark; least = 0 })) same)))

  matched_unless : (room : ℕ) → Unless 13 unmeasured_matched (matched_with file head location true room) (matched_with file head location false room)
  unfolding matched_with searched
  matched_unless room =
      found_unless (λ p. searched file head p true room) (λ p. searched file head p false room)
      (seek_unless (judge_in file head fix true) (judge_in file head fix false) judged_unless fix room head.sections.metadata (rows_in file head) farthest farthest [])

  -- among rows that are given as words
  listed_unless : (records numbers : List ℕ) (room : ℕ)
      → Unless 13 unmeasured_matched (matched_listed file head location true records numbers room) (matched_listed file head location false records numbers room)
  unfolding matched_listed searched_listed
  listed_unless records numbers room =
      found_unless (λ p. searched_listed file head p true records numbers room) (λ p. searched_listed file head p false records numbers room)
      (seek_all_unless (judge_in file head fix true) (judge_in file head fix false) judged_unless fix room (rows_listed records numbers) farthest farthest [])

  -- what lookup makes of the matches
  abbrev finished : ℕ → Bool → Matched → ℕ → Reply (Outcome Zones)
  finished room asked found least =
      fields_of file head room found.matches []
      >>= λ text. given (record {
        answer = record { matches = length found.matches; mark = found.mark; safezone = safezone_bits asked least head.preamble.precision; used = length text };
        matches = found.matches;
        text = text;
      })

  zones_unless : (room : ℕ) {asked not : Reply Matched} → Unless 13 unmeasured_matched asked not → Unless 13 unmeasured_outcome (zones_from file head true room asked)
      (zones_from file head false room not)
  zones_unless room {asked} {not} same =
      unless_then asked not same λ a b same. subst (λ (found : Matched). Unless 13 unmeasured_outcome (finished room true a a.least) (finished room false found b.least)) same
      (unless_after (fields_of file head room a.matches []) (λ text. alike refl))

  -- without the distance there are no safezone bits to leave out
  zones_unmeasured : (room : ℕ) (matched : Reply Matched) → shown unmeasured_outcome (zones_from file head false room matched) ≡ zones_from file head false room matched
  unfolding safezone_bits
  zones_unmeasured room = through where
    written : (found : Matched) (text : Reply (List ℕ)) → shown unmeasured_outcome (text >>= λ t. given (record {
      answer = record { matches = length found.matches; mark = found.mark; safezone = 0; used = length t };
      matches = found.matches;
      text = t;
    })) ≡ (text >>= λ t. given (record {
      answer = record { matches = length found.matches; mark = found.mark; safezone = 0; used = length t };
      matches = found.matches;
      text = t;
    }))
    written found (given t) = refl
    written found (refused why) = refl

    through : (r : Reply Matched) → shown unmeasured_outcome (r >>= λ found. finished room false found found.least) ≡ (r >>= λ found. finished room false found found.least)
    through (given found) = written found (fields_of file head room found.matches [])
    through (refused why) = refl

-- ---- lookup
-- a reply with its lent buffers, without the safezone bits
abbrev pub unmeasured_reply : Replied Zones → Replied Zones
unmeasured_reply r = replied (shown unmeasured r.reply) r.hits r.text

replied_unmeasured : (n room : ℕ) (r : Reply (Outcome Zones)) → unmeasured_reply (replied_of n room r) ≡ replied_of n room (shown unmeasured_outcome r)
unfolding replied_of
replied_unmeasured n room (given o) = refl
replied_unmeasured n room (refused why) = refl

-- asking with the distance is refused by 13, or asking without it gives the same reply and the same lent output, but for the safezone bits
abbrev pub AskedOrNot : ℕ → ℕ → Replied Zones → Replied Zones → Type 0
AskedOrNot n room asked not = (asked ≡ replied_of n room (refused (plain 13))) ⊎ (unmeasured_reply asked ≡ not)

replies_so : (n room : ℕ) (asked not : Reply (Outcome Zones)) → Unless 13 unmeasured_outcome asked not → shown unmeasured_outcome not ≡ not
    → AskedOrNot n room (replied_of n room asked) (replied_of n room not)
replies_so n room asked not (refuses e) same = inl (ap (replied_of n room) e)
replies_so n room asked not (alike e) same = inr (replied_unmeasured n room asked ∙ ap (replied_of n room) (e ∙ same))

-- in a file whose header was read,
pub asked_or_not_with : (file : List ℕ) (head : Head) (location : Location) (n room : ℕ) → AskedOrNot n room (looked_with file head location true n room) (looked_with file head location false n room)
unfolding looked_with zones_with
asked_or_not_with file head location n room =
    replies_so n room _ _ (zones_unless file head location room (matched_unless file head location (n / width))) (zones_unmeasured file head location room
    (matched_with file head location false (n / width)))

-- among rows that are given as words, as an index has them,
pub asked_or_not_listed : (file : List ℕ) (head : Head) (location : Location) (records numbers : List ℕ) (n room : ℕ)
    → AskedOrNot n room (looked_listed file head location true records numbers n room) (looked_listed file head location false records numbers n room)
unfolding looked_listed zones_listed
asked_or_not_listed file head location records numbers n room =
    replies_so n room _ _ (zones_unless file head location room (listed_unless file head location records numbers (n / width)))
    (zones_unmeasured file head location room (matched_listed file head location false records numbers (n / width)))

module _ (file : List ℕ) (location : Location) (n room : ℕ) where
  opened : (r : Reply Head) → shown unmeasured_outcome (r >>= λ head. zones_with file head location false n room) ≡ (r >>= λ head. zones_with file head location false n room)
  unfolding zones_with
  opened (given head) = zones_unmeasured file head location room (matched_with file head location false (n / width))
  opened (refused why) = refl

  with_unless : (head : Head) → Unless 13 unmeasured_outcome (zones_with file head location true n room) (zones_with file head location false n room)
  unfolding zones_with
  with_unless head = zones_unless file head location room (matched_unless file head location (n / width))

  -- and in one that is opened first
  pub asked_or_not_up : AskedOrNot n room (looked_up file location true n room) (looked_up file location false n room)
  unfolding looked_up zones_in
  asked_or_not_up = replies_so n room _ _ (unless_after (head_of file) with_unless) (opened (head_of file))

  -- strictly too
  pub asked_or_not_strictly : AskedOrNot n room (looked_strictly file location true n room) (looked_strictly file location false n room)
  unfolding looked_strictly
  asked_or_not_strictly = replies_so n room _ _ (unless_after (head_strictly file) with_unless) (opened (head_strictly file))

  -- where asking with the distance is answered, asking without it is answered too: the same matches, strings, bytes used and end mark
  pub without_safezone : {zones : Zones} → (looked_up file location true n room).reply ≡ given zones
      → looked_up file location false n room ≡ replied (given (unmeasured zones)) (looked_up file location true n room).hits (looked_up file location true n room).text
  unfolding replied_of
  without_safezone {zones} answered = go asked_or_not_up where
    go : AskedOrNot n room (looked_up file location true n room) (looked_up file location false n room)
        → looked_up file location false n room ≡ replied (given (unmeasured zones)) (looked_up file location true n room).hits (looked_up file location true n room).text
    go (inl e) = let z : ◌≡◌ {A = Reply Zones} (given zones) (refused (plain 13)) = sym answered ∙ ap (λ (r : Replied Zones). r.reply) e in let no : ◌≡◌ {A = ℕ} 0 1 = cc in absurd (omega arith)
    go (inr e) = sym e ∙ ap (λ (r : Reply Zones). replied (shown unmeasured r) (looked_up file location true n room).hits (looked_up file location true n room).text) answered

  -- the other way round only 13 may differ: where asking with the distance is not refused by 13, it says what asking without it says
  pub only_thirteen : ((looked_up file location true n room).reply ≡ refused (plain 13) → ⊥) → unmeasured_reply (looked_up file location true n room) ≡ looked_up file location false n room
  unfolding replied_of
  only_thirteen not_so = go asked_or_not_up where
    go : AskedOrNot n room (looked_up file location true n room) (looked_up file location false n room) → unmeasured_reply (looked_up file location true n room) ≡ looked_up file location false n room
    go (inl e) = absurd (not_so (ap (λ (r : Replied Zones). r.reply) e))
    go (inr e) = e
