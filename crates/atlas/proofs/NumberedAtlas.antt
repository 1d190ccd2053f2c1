-- Which numbers a lookup through an atlas can be refused with, whatever the words are: those of a lookup through an index. Assumes nothing.
use Rattle.numbers.proofs.Prelude.{ℕ, ◌*◌, ◌/◌, eqb, leb, length, Bool, false, List, [], ◌∷◌, ◌≡◌, refl, ap, subst, ◌∙◌, arith}
use Rattle.numbers.proofs.{Refusals.{Listed, still_listed, either}, Replies.{NumberedReply, answers, refuses, then_reply, then_with, and_then, demands, number_of_lem}, Tests.{differ}}
use Rattle.numbers.specs.{Reply.{Reply, given, refused, plain, ◌>>=◌}, declared.refusal.Refusal.{Refusal}}
use Rattle.border.specs.declared.place.Point.{Point}
use Rattle.header.{proofs.{Numbered.{header_numbers, head_numbered}, StrictHead.{head_strict}}, specs.{Header.{head_of}, declared.header.Head.{Head}}}
use Rattle.index.proofs.NumberedThrough.{through_numbers, Known, Numbered, place_numbered, seeks, cut, opened}
use Rattle.marks.proofs.NumberedMarks.{marked_numbered}
use Rattle.table.specs.{Find.{Matched, fix_of, is_precision, matched_with}, Hits.{width}, MarkedRows.{mark_for, judge_marked, judge_numbered, row_numbered, searched_marked, matched_marked}}
use Rattle.table.specs.Search.{farthest}
use Rattle.table.specs.declared.{hits.Hit.{Hit}, location.Location.{Location}}
use Rattle.verdict.proofs.Numbered.{NumberedJudgement, judged_numbered}
use Rattle.atlas.specs.{Beside.{matched_beside, zones_beside, described_beside, simply_beside}, Looked.{is_whole, parts_of, matched_atlas, zones_atlas, looked_atlas}}
use Rattle.zones.{proofs.NumberedLookup.{lookup_numbers, fields, described_at, lookup_refusals, replied_numbered}, specs.{Lent.{replied_of}, Lookup.{zones_from, zones_with, zones_in, looked_up}}}
use Rattle.zones.specs.{Simple.{joined, picked_of, checked, bytes_in, description_at, description_of, worded_of}, declared.simple.Picked.{Picked}}
use Rattle.zones.proofs.NumberedLookup as Z

parts_numbered : (file : List ℕ) (head : Head) (words : List ℕ) (location : Location) → Numbered (parts_of (length file) head words location)
unfolding parts_of
parts_numbered file head words location = then_reply (place_numbered file head words location) (λ place. and_then (demands (is_whole words) (plain 36) refl) answers)

-- ---- a file that was read plainly
module _ (file : List ℕ) (head : Head) (plainly : head.strict ≡ false) where
  judges : (fix : Point) (asked : Bool) (records marks : List ℕ) (k least : ℕ) → NumberedJudgement Known (judge_numbered file head fix asked records marks k least)
  unfolding judge_marked
  judges fix asked records marks k least =
      either (NumberedJudgement Known) (eqb (mark_for marks k) 0) (judged_numbered refl refl file _ (cut file head plainly) _ _ _ asked least)
      (marked_numbered refl refl refl file _ marks _ _ _ asked least)

  matched : (location : Location) (asked : Bool) (records numbers marks : List ℕ) (room : ℕ) → Numbered (matched_marked file head location asked records numbers marks room)
  unfolding matched_marked searched_marked
  matched location asked records numbers marks room = let fix = fix_of location head.preamble.precision in
      and_then (demands (is_precision head.preamble.precision) (plain 16) refl)
      (then_reply (seeks (judge_numbered file head fix asked records marks) fix (judges fix asked records marks) row_numbered room records numbers farthest []) (λ found. answers))

  matched_through : (words : List ℕ) (location : Location) (asked : Bool) (room : ℕ) → Numbered (matched_atlas file head words location asked room)
  unfolding matched_atlas
  matched_through words location asked room = then_reply (parts_numbered file head words location) (λ parts. matched location asked _ _ _ room)

  -- the fields of what was found
  zones_found : (asked : Bool) (room : ℕ) {found : Reply Matched} → Numbered found → Numbered (zones_from file head asked room found)
  zones_found asked room h = then_reply h (λ found. then_reply (fields refl refl refl refl file head (cut file head plainly) room found.matches []) (λ text. answers))

  zones_numbered : (words : List ℕ) (location : Location) (asked : Bool) (n room : ℕ) → Numbered (zones_atlas file head words location asked n room)
  unfolding zones_atlas
  zones_numbered words location asked n room = zones_found asked room (matched_through words location asked (n / width))

  -- ---- simple lookup
  -- the wanted fields, by what a plain lookup's description can be refused with
  described_known : (metadata : ℕ) → Numbered (description_at file head metadata)
  described_known metadata = go (description_at file head metadata) (described_at file head metadata) where
    go : {A : Type 0} (reply : Reply A) → NumberedReply (Z.Known head.strict) reply → Numbered reply
    go (given a) h = answers
    go (refused why) h = refuses (still_listed lookup_numbers (36 ∷ []) why.number (subst (λ (s : Bool). Z.Known s why.number) plainly (number_of_lem h refl)))

  picked_known : (match : Hit) → Numbered (picked_of file head match)
  picked_known match = go (picked_of file head match) refl where
    go : (reply : Reply Picked) → picked_of file head match ≡ reply → Numbered reply
    go (given picked) e = answers
    go (refused why) e =
        refuses (number_of_lem (described_known match.metadata) (ap (λ (r : Reply Picked). r >>= λ picked. given (joined file picked.one picked.two)) e))

  checks : (matches : List Hit) → Numbered (checked file head matches)
  unfolding checked
  checks [] = answers
  checks (match ∷ matches) = then_reply (picked_known match) (λ picked. checks matches)

  describes : (matches : List Hit) → Numbered (description_of file head matches)
  unfolding description_of
  describes [] = answers
  describes (match ∷ matches) = described_known match.metadata

  worded : (room : ℕ) (matches : List Hit) → Numbered (worded_of file head room matches)
  unfolding worded_of
  worded room matches =
      then_reply (describes matches) (λ description. then_reply (and_then (demands (leb (length (bytes_in description)) room) (plain 18) refl) answers) (λ bytes. answers))

-- A lookup through any words that is not answered is refused with a plain lookup's numbers, or 36.
pub atlas_refusals : (file words : List ℕ) (location : Location) (asked : Bool) (n room : ℕ) (why : Refusal) → (looked_atlas file words location asked n room).reply ≡ refused why
    → Listed through_numbers why.number
unfolding looked_atlas
atlas_refusals file words location asked n room why = number_of_lem (replied_numbered n room (opened file _ (λ head plainly. zones_numbered file head plainly words location asked n room)))

-- ---- beside any words, where none is no atlas
module _ (file : List ℕ) {head : Head} (o : head_of file ≡ given head) where
  plainly : head.strict ≡ false
  plainly = head_strict false file o

  -- a plain search's are those of a plain lookup
  plain_matched : (location : Location) (asked : Bool) (room : ℕ) → Numbered (matched_with file head location asked room)
  unfolding looked_up zones_in zones_with replied_of
  plain_matched location asked room = go (matched_with file head location asked room) refl where
    enough : (width * room) / width ≡ room
    enough = omega arith

    looks : (looked_up file location asked (width * room) 0).reply ≡ (replied_of (width * room) 0 (zones_from file head asked 0 (matched_with file head location asked room))).reply
    looks =
        ap (λ (r : Reply Head). (replied_of (width * room) 0 (r >>= λ head. zones_with file head location asked (width * room) 0)).reply) o
        ∙ ap (λ (k : ℕ). (replied_of (width * room) 0 (zones_from file head asked 0 (matched_with file head location asked k))).reply) enough

    go : (reply : Reply Matched) → matched_with file head location asked room ≡ reply → Numbered reply
    go (given found) e = answers
    go (refused why) e =
        refuses (still_listed lookup_numbers (36 ∷ []) why.number (lookup_refusals file location asked (width * room) 0 why (looks
        ∙ ap (λ (m : Reply Matched). (replied_of (width * room) 0 (zones_from file head asked 0 m)).reply) e)))

  matched_numbered : (words : List ℕ) (location : Location) (asked : Bool) (room : ℕ) → Numbered (matched_beside file head words location asked room)
  unfolding matched_beside
  matched_numbered [] location asked room = plain_matched location asked room
  matched_numbered (word ∷ words) location asked room = matched_through file head plainly (word ∷ words) location asked room

  -- A search beside any words, in the file's own header, that is not answered is refused with a plain lookup's numbers, or 36,
  pub matched_beside_refusals : (words : List ℕ) (location : Location) (asked : Bool) (room : ℕ) (why : Refusal) → matched_beside file head words location asked room ≡ refused why
      → Listed through_numbers why.number
  matched_beside_refusals words location asked room why = number_of_lem (matched_numbered words location asked room)

  pub zones_beside_numbered : (words : List ℕ) (location : Location) (asked : Bool) (n room : ℕ) → Numbered (zones_beside file head words location asked n room)
  unfolding zones_beside
  zones_beside_numbered words location asked n room = zones_found file head plainly asked room (matched_numbered words location asked (n / width))

  -- and so is a lookup over it,
  pub zones_beside_refusals : (words : List ℕ) (location : Location) (asked : Bool) (n room : ℕ) (why : Refusal) → zones_beside file head words location asked n room ≡ refused why
      → Listed through_numbers why.number
  zones_beside_refusals words location asked n room why = number_of_lem (zones_beside_numbered words location asked n room)

  described_numbered : (words : List ℕ) (location : Location) (n room : ℕ) → Numbered (described_beside file head words location n room)
  unfolding described_beside
  described_numbered words location n room =
      then_reply (matched_numbered words location false (n / width)) (λ found. and_then (checks file head plainly found.matches)
      (then_reply (worded file head plainly room found.matches) (λ description. answers)))

-- and a simple lookup of a file that is opened first.
pub simple_beside_refusals : (file words : List ℕ) (location : Location) (n room : ℕ) (why : Refusal) → (simply_beside file words location n room).reply ≡ refused why
    → Listed through_numbers why.number
unfolding simply_beside
simple_beside_refusals file words location n room why =
    number_of_lem (replied_numbered n room (then_with (head_numbered known false differ file) (λ head o. described_numbered file o words location n room))) where
      known : (m : ℕ) → Listed header_numbers m → Known m
      known m h = still_listed lookup_numbers (36 ∷ []) m (still_listed header_numbers (15 ∷ 16 ∷ 17 ∷ 18 ∷ []) m h)
