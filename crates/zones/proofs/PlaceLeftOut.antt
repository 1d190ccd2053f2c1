-- Nothing but the fourth word of a hit goes by a row's place: for the same room in hits document 01's three-word lookups reply and leave what these do, with the place
-- left out. Assumes nothing.
use Rattle.numbers.proofs.Prelude.{ℕ, zero, suc, ◌-◌, ◌*◌, ◌/◌, eqb, ltb, length, length-map, Bool, true, false, List, [], ◌∷◌, ◌++◌, map, ◌≡◌, refl, ap, ◌∙◌, arith}
use Rattle.numbers.{proofs.Replies.{after}, specs.{Answer.{if◌then◌else◌}, Lists.{zeros, padded}, Reply.{Reply, given, plain, demand, ◌>>=◌, ◌>>◌}}}
use Rattle.std.specs.Prelude.{Option}
use Rattle.verdict.specs.Verdict.{Judgement, reached}
use Rattle.border.specs.declared.place.Point.{Point}
use Rattle.header.{proofs.Unless.{shown}, specs.{Header.{head_of}, declared.header.Head.{Head}}}
use Rattle.table.{proofs.Words.{words_length}, specs.{Find.{fix_of, is_precision, Matched, matched_with}, Hits.{width, hit_of, words}, Merge.{Summary, ◌⊕◌, single, summary, group_kind, seen, match_of}}}
use Rattle.table.specs.{Merge.{merged_after, merged}, Rest.{rest_mark}, Rows.{Rows, row, table_end, unreadable, rows_in}, Search.{kind_of, row_hit, judged_turn, row_turn, Found, ended, after_turn, seek}}
use Rattle.table.specs.{Search.{judge_in, farthest, searched}, Table.{is_above, holds}, declared.{hits.Hit.{Hit}, location.Location.{Location}, rows.Row.{Row}, search.Turn.TheVariants.{On, Met}}}
use Rattle.zones.specs.{Fields.{fields_from, fields_of, fields_place}, Lent.{Outcome, replied, replied_of}, Lookup.{safezone_bits, zones_from, zones_with, zones_in, looked_up}}
use Rattle.zones.specs.Places.{placeless_row, placeless, three_words, matched_placeless, replied_in_three, looked_up_in_three, simply_looked_in_three, leave_out, without_places}
use Rattle.zones.specs.{Simple.{picked_of, checked, description_of, bytes_in, length_in, worded_of, described_from, described_with, described_in, simply_looked}, declared.lookup.Zones.{Zones}}
use Rattle.zones.specs.declared.simple.{Described.{Described}, Picked.{Picked}}
use Rattle.verdict.specs.Verdict as J
use Rattle.numbers.specs.Reply as R
use Rattle.table.specs.Rows as T

-- a hit without its place
abbrev pub bare_hit : Hit → Hit
bare_hit hit = hit_of hit.polygon hit.metadata hit.kind 0

abbrev pub bare : List Hit → List Hit
bare = map bare_hit

pub bare_append : (xs ys : List Hit) → bare xs ++ bare ys ≡ bare (xs ++ ys)
bare_append [] ys = refl
bare_append (x ∷ xs) ys = ap (λ (l : List Hit). bare_hit x ∷ l) (bare_append xs ys)

-- ---- the search
abbrev bare_found : Found → Found
bare_found found = record { hits = bare found.hits; mark = found.mark; least = found.least }

rest_bare : (end : ℕ) (fix : Point) (rows : Rows) → rest_mark end fix (placeless rows) ≡ rest_mark end fix rows
unfolding rest_mark placeless
rest_bare end fix (row r rows) = ap (λ (mark : ℕ). if ltb end r.next then 2 else (if holds r.bounds fix then 4 else mark)) (rest_bare end fix rows)
rest_bare end fix table_end = refl
rest_bare end fix unreadable = refl
rest_bare end fix (T.refused n) = refl

module _ (judge : ℕ → ℕ → Judgement) (fix : Point) (end room : ℕ) where
  -- the one search finds, without places, what the other finds
  abbrev Alike : (ℕ → List Hit → Reply Found) → (ℕ → List Hit → Reply Found) → Type 0
  Alike without go = (least : ℕ) (hits : List Hit) → without least (bare hits) ≡ shown bare_found (go least hits)

  module _ (without go : ℕ → List Hit → Reply Found) (alike : Alike without go) (r : Row) (hits : List Hit) where
    by_room : (kind least : ℕ) (t : Bool) → (if t then without least (bare hits ++ row_hit (placeless_row r) kind ∷ []) else R.refused (plain 17))
        ≡ shown bare_found (if t then go least (hits ++ row_hit r kind ∷ []) else R.refused (plain 17))
    by_room kind least true = ap (without least) (bare_append hits (row_hit r kind ∷ [])) ∙ alike least (hits ++ row_hit r kind ∷ [])
    by_room kind least false = refl

    by_kind : (kind least : ℕ) (t : Bool) → after_turn (if t then On least else Met (row_hit (placeless_row r) kind) least) (bare hits) room without
        ≡ shown bare_found (after_turn (if t then On least else Met (row_hit r kind) least) hits room go)
    by_kind kind least true = alike least hits
    by_kind kind least false = rw (length-map hits bare_hit) (by_room kind least (ltb (length hits) room))

    by_judgement : (judgement : Judgement) → after_turn (judged_turn (placeless_row r) judgement) (bare hits) room without ≡ shown bare_found (after_turn (judged_turn r judgement) hits room go)
    unfolding judged_turn
    by_judgement (reached verdict least) = by_kind (kind_of verdict) least (eqb (kind_of verdict) 0)
    by_judgement (J.failed least) = refl
    by_judgement (J.refused n) = refl

    by_row : (least : ℕ) → after_turn (row_turn judge fix (placeless_row r) least) (bare hits) room without ≡ shown bare_found (after_turn (row_turn judge fix r least) hits room go)
    unfolding row_turn
    by_row least = go_on (holds r.bounds fix) where
      go_on : (held : Bool) → after_turn (if held then judged_turn (placeless_row r) (judge r.polygon least) else On least) (bare hits) room without
          ≡ shown bare_found (after_turn (if held then judged_turn r (judge r.polygon least) else On least) hits room go)
      go_on true = by_judgement (judge r.polygon least)
      go_on false = alike least hits

  seek_bare : (rows : Rows) → Alike (seek judge fix end room (placeless rows)) (seek judge fix end room rows)
  unfolding seek placeless
  seek_bare (row r rows) least hits =
      by_above (is_above r.bounds fix) _ _ (by_row (seek judge fix end room (placeless rows)) (seek judge fix end room rows) (seek_bare rows) r hits least) where
        by_above : (above : Bool) (on on' : Reply Found) → on ≡ shown bare_found on'
            → (if above then ended (bare hits) (rest_mark end fix (placeless (row r rows))) least else on) ≡ shown bare_found (if above then ended hits (rest_mark end fix (row r rows)) least else on')
        by_above true on on' e = ap (λ (mark : ℕ). ended (bare hits) mark least) (rest_bare end fix (row r rows))
        by_above false on on' e = e
  seek_bare table_end least hits = refl
  seek_bare unreadable least hits = refl
  seek_bare (T.refused n) least hits = refl

-- ---- merging
seen_bare : (id : ℕ) (hits : List Hit) → seen id (bare hits) ≡ seen id hits
unfolding seen
seen_bare id [] = refl
seen_bare id (hit ∷ hits) = ap (λ (t : Bool). if eqb hit.metadata id then true else t) (seen_bare id hits)

summary_bare : (id : ℕ) (hits : List Hit) → summary id (bare hits) ≡ summary id hits
unfolding summary
summary_bare id [] = refl
summary_bare id (hit ∷ hits) = ap (λ (s : Summary). if eqb hit.metadata id then single hit.kind ⊕ s else s) (summary_bare id hits)

match_bare : (hit : Hit) (kind : ℕ) → match_of (bare_hit hit) kind ≡ bare (match_of hit kind)
match_bare hit kind = go (eqb kind 0) where
  go : (t : Bool) → (if t then [] else (bare_hit (hit_of hit.polygon hit.metadata kind hit.place) ∷ [])) ≡ bare (if t then [] else (hit_of hit.polygon
      hit.metadata kind hit.place ∷ []))
  go true = refl
  go false = refl

pub merged_bare : (before hits : List Hit) → merged_after (bare before) (bare hits) ≡ bare (merged_after before hits)
unfolding merged_after
merged_bare before [] = refl
merged_bare before (hit ∷ hits) =
    (λ i. (if seen_bare hit.metadata before i then [] else match_of (bare_hit hit) (group_kind (summary_bare hit.metadata (hit ∷ hits) i))) ++ merged_after
    (bare_append before (hit ∷ []) i) (bare hits)) ∙ (λ i. first (seen hit.metadata before) i ++ merged_bare (before ++ hit ∷ []) hits i) ∙ bare_append
    (if seen hit.metadata before then [] else match_of hit (group_kind (summary hit.metadata (hit ∷ hits)))) (merged_after (before ++ hit ∷ []) hits) where
      first : (t : Bool) → (if t then [] else match_of (bare_hit hit) (group_kind (summary hit.metadata (hit ∷ hits)))) ≡ bare (if t then [] else match_of hit
          (group_kind (summary hit.metadata (hit ∷ hits))))
      first true = refl
      first false = match_bare hit (group_kind (summary hit.metadata (hit ∷ hits)))

-- ---- in a file whose header was read
abbrev bare_matched : Matched → Matched
bare_matched found = record { matches = bare found.matches; mark = found.mark; least = found.least }

abbrev bare_outcome : {A : Type 0} → Outcome A → Outcome A
bare_outcome o = record { answer = o.answer; matches = bare o.matches; text = o.text }

module _ (file : List ℕ) (head : Head) where
  -- what a search's answer is merged to
  abbrev merging : Found → Reply Matched
  merging found = given (record { matches = merged found.hits; mark = found.mark; least = found.least })

  merging_bare : (reply : Reply Found) → (shown bare_found reply >>= merging) ≡ shown bare_matched (reply >>= merging)
  unfolding merged
  merging_bare (given found) = ap (λ (l : List Hit). given (record { matches = l; mark = found.mark; least = found.least })) (merged_bare [] found.hits)
  merging_bare (R.refused why) = refl

  matched_bare : (location : Location) (asked : Bool) (room : ℕ) → matched_placeless file head location asked room ≡ shown bare_matched (matched_with file head location asked room)
  unfolding matched_placeless matched_with searched
  matched_bare location asked room = let fix = fix_of location head.preamble.precision in
      demanded (is_precision head.preamble.precision) _ _ (ap (λ (reply : Reply Found). reply >>= merging) (seek_bare (judge_in file head fix asked) fix
      head.sections.metadata room (rows_in file head) farthest []) ∙ merging_bare (searched file head fix asked room)) where
        demanded : (t : Bool) (matched placed : Reply Matched) → matched ≡ shown bare_matched placed → (demand t (plain 16) >> matched) ≡ shown bare_matched (demand t (plain 16) >> placed)
        demanded true matched placed e = e
        demanded false matched placed e = refl

  -- fields and descriptions go by metadata ids alone
  fields_bare : (room : ℕ) (matches : List Hit) (text : List ℕ) → fields_of file head room (bare matches) text ≡ fields_of file head room matches text
  unfolding fields_of
  fields_bare room [] text = refl
  fields_bare room (match ∷ matches) text = after (fields_from file head room head.preamble.count 0 (fields_place head match.metadata) text) (fields_bare room matches)

  checked_bare : (matches : List Hit) → checked file head (bare matches) ≡ checked file head matches
  unfolding checked
  checked_bare [] = refl
  checked_bare (match ∷ matches) = after (picked_of file head match) (λ (picked : Picked). checked_bare matches)

  worded_bare : (room : ℕ) (matches : List Hit) → worded_of file head room (bare matches) ≡ worded_of file head room matches
  unfolding worded_of description_of
  worded_bare room [] = refl
  worded_bare room (match ∷ matches) = refl

  zones_bare : (asked : Bool) (room : ℕ) (matched : Reply Matched) → zones_from file head asked room (shown bare_matched matched) ≡ shown bare_outcome (zones_from file head asked room matched)
  zones_bare asked room (given found) =
      (λ i. fields_bare room found.matches [] i >>= λ text. given (outcome (length-map found.matches bare_hit i) (bare found.matches) text))
      ∙ looked_at (fields_of file head room found.matches []) where
        outcome : ℕ → List Hit → List ℕ → Outcome Zones
        outcome count matches text = record {
          answer = record { matches = count; mark = found.mark; safezone = safezone_bits asked found.least head.preamble.precision; used = length text };
          matches = matches;
          text = text;
        }

        looked_at : (reply : Reply (List ℕ)) → (reply >>= λ text. given (outcome (length found.matches) (bare found.matches) text))
            ≡ shown bare_outcome (reply >>= λ text. given (outcome (length found.matches) found.matches text))
        looked_at (given text) = refl
        looked_at (R.refused why) = refl
  zones_bare asked room (R.refused why) = refl

  described_bare : (room : ℕ) (matched : Reply Matched) → described_from file head room (shown bare_matched matched) ≡ shown bare_outcome (described_from file head room matched)
  described_bare room (given found) =
      (λ i. checked_bare found.matches i >> (worded_bare room found.matches i >>= λ description. given (outcome (length-map found.matches bare_hit i) (bare found.matches) description)))
      ∙ looked_at (checked file head found.matches) (worded_of file head room found.matches) where
        outcome : ℕ → List Hit → Option (List ℕ) → Outcome Described
        outcome count matches description = record { answer = record { matches = count; mark = found.mark; description = length_in description }; matches = matches; text = bytes_in description }

        looked_at : (check : Reply (Unit {0})) (reply : Reply (Option (List ℕ))) → (check >> (reply >>= λ description. given (outcome (length found.matches) (bare found.matches) description)))
            ≡ shown bare_outcome (check >> (reply >>= λ description. given (outcome (length found.matches) found.matches description)))
        looked_at (given u) (given description) = refl
        looked_at (given u) (R.refused why) = refl
        looked_at (R.refused why) reply = refl
  described_bare room (R.refused why) = refl

-- ---- the lent words
three_bare : (hits : List Hit) → three_words (bare hits) ≡ three_words hits
unfolding three_words
three_bare [] = refl
three_bare (hit ∷ hits) = ap (λ (ws : List ℕ). hit.polygon ∷ hit.metadata ∷ hit.kind ∷ ws) (three_bare hits)

three_length : (hits : List Hit) → length (three_words hits) ≡ 3 * length hits
unfolding three_words
three_length [] = refl
three_length (hit ∷ hits) = omega (arith, three_length hits)

zeros_left_out : (k : ℕ) → zeros (3 * k) ≡ leave_out (zeros (width * k))
unfolding leave_out
zeros_left_out zero = refl
zeros_left_out (suc k) = let e : width * suc k ≡ suc (suc (suc (suc (width * k)))) = omega arith in let f : 3 * suc k ≡ suc (suc (suc (3 * k))) = omega arith in
    rw (e, f) (ap (λ (ws : List ℕ). 0 ∷ 0 ∷ 0 ∷ ws) (zeros_left_out k))

words_left_out : (hits : List Hit) (k : ℕ) → three_words hits ++ zeros (3 * k) ≡ leave_out (words hits ++ zeros (width * k))
unfolding three_words words leave_out
words_left_out [] k = zeros_left_out k
words_left_out (hit ∷ hits) k = ap (λ (ws : List ℕ). hit.polygon ∷ hit.metadata ∷ hit.kind ∷ ws) (words_left_out hits k)

padded_left_out : (hits : List Hit) (k : ℕ) → padded (3 * k) (three_words hits) ≡ leave_out (padded (width * k) (words hits))
padded_left_out hits k = let e : 3 * k - length (three_words hits) ≡ 3 * (k - length hits) = omega (arith, three_length hits) in
    let f : width * k - length (words hits) ≡ width * (k - length hits) = omega (arith, words_length hits) in rw (e, f) (words_left_out hits (k - length hits))

replied_left_out : {A : Type 0} (k room : ℕ) (reply : Reply (Outcome A)) → replied_in_three (3 * k) room (shown bare_outcome reply) ≡ without_places (replied_of (width * k) room reply)
unfolding replied_in_three replied_of
replied_left_out k room (given o) = λ i. replied (given o.answer) ((ap (padded (3 * k)) (three_bare o.matches) ∙ padded_left_out o.matches k) i) (padded room o.text)
replied_left_out k room (R.refused why) = λ i. replied (R.refused why) (zeros_left_out k i) (zeros room)

-- ---- lookups
module _ {A : Type 0} (file : List ℕ) (location : Location) (asked : Bool) (room : ℕ) (next : Head → Reply Matched → Reply (Outcome A))
    (next-bare : (head : Head) (matched : Reply Matched) → next head (shown bare_matched matched) ≡ shown bare_outcome (next head matched)) where
  opened_bare : (k : ℕ) (reply : Reply Head) → (reply >>= λ head. next head (matched_placeless file head location asked k)) ≡ shown bare_outcome
      (reply >>= λ head. next head (matched_with file head location asked k))
  opened_bare k (given head) = ap (next head) (matched_bare file head location asked k) ∙ next-bare head (matched_with file head location asked k)
  opened_bare k (R.refused why) = refl

  left_out : (k : ℕ) → replied_in_three (3 * k) room (head_of file >>= λ head. next head (matched_placeless file head location asked (3 * k / 3)))
      ≡ without_places (replied_of (width * k) room (head_of file >>= λ head. next head (matched_with file head location asked (width * k / width))))
  left_out k = let e : 3 * k / 3 ≡ k = omega arith in let f : width * k / width ≡ k = omega arith in
      rw (e, f) (ap (replied_in_three (3 * k) room) (opened_bare k (head_of file)) ∙ replied_left_out k room (head_of file >>= λ head. next head (matched_with file head location asked k)))

-- For the same room in hits, document 01's three-word lookup replies and leaves in both lent buffers what this one does, with the place left out,
pub place_left_out : (file : List ℕ) (location : Location) (asked : Bool) (k room : ℕ) → looked_up_in_three file location asked (3 * k) room ≡ without_places
    (looked_up file location asked (width * k) room)
unfolding looked_up_in_three looked_up zones_in zones_with
place_left_out file location asked k room = left_out file location asked room (λ head. zones_from file head asked room) (λ head. zones_bare file head asked room) k

-- and its simple lookup too.
pub simple_place_left_out : (file : List ℕ) (location : Location) (k room : ℕ) → simply_looked_in_three file location (3 * k) room ≡ without_places (simply_looked file location (width * k) room)
unfolding simply_looked_in_three simply_looked described_in described_with
simple_place_left_out file location k room = left_out file location false room (λ head. described_from file head room) (λ head. described_bare file head room) k
