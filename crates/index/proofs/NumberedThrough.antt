-- Which numbers a lookup through an index can be refused with, whatever the words are. Assumes nothing.
use Rattle.numbers.proofs.{Prelude.{ℕ, ◌/◌, ltb, length, Bool, true, false, List, [], ◌∷◌, ◌++◌, ◌≡◌, refl, sym, ◌∙◌}, Refusals.{Listed, still_listed, either}, Replies.{NumberedReply, answers}}
use Rattle.numbers.proofs.{Replies.{refuses, then_reply, then_with, and_then, demands, number_of_lem}, Tests.{differ}}
use Rattle.numbers.specs.{Reply.{Reply, refused, plain, ◌>>=◌}, declared.refusal.Refusal.{Refusal}}
use Rattle.border.specs.declared.place.Point.{Point}
use Rattle.verdict.{proofs.Numbered.{NumberedJudgement, judged_numbered}, specs.Verdict.{Judgement}}
use Rattle.header.{proofs.{Numbered.{header_numbers, head_numbered}, StrictHead.{head_strict}}, specs.{Header.{head_of}, declared.header.Head.{Head}}}
use Rattle.table.specs.{Find.{fix_of, is_precision}, GivenRows.{row_at, rows_by, searched_listed, matched_listed}, Hits.{width}, Rows.{Rows, row}, Search.{judge_in, farthest}, Unstopped.{seek_all}}
use Rattle.table.specs.declared.{hits.Hit.{Hit}, location.Location.{Location}, rows.Row.{Row}}
use Rattle.zones.{proofs.NumberedLookup.{lookup_numbers, row_turn_numbered, after_turn_numbered, replied_numbered, fields}, specs.Lookup.{zones_listed}}
use Rattle.index.specs.{Through.{is_inside, place_of, zones_through, looked_through, looked_indexed}, Tied.{is_headed, is_tied, tied_with}, Tiles.{tile_of}}
use Rattle.table.specs.Rows as T

-- a plain lookup's, and 36: words that do not go with the file, a list outside the lists, a number without a record
abbrev pub through_numbers : List ℕ
through_numbers = lookup_numbers ++ (36 ∷ [])

abbrev pub Known : ℕ → Type 0
Known = Listed through_numbers

abbrev pub Numbered : {A : Type 0} → Reply A → Type 0
Numbered = NumberedReply Known

known : (n : ℕ) → Listed header_numbers n → Known n
known n h = still_listed lookup_numbers (36 ∷ []) n (still_listed header_numbers (15 ∷ 16 ∷ 17 ∷ 18 ∷ []) n h)

-- ---- the words
module _ (file : List ℕ) (head : Head) (words : List ℕ) where
  tie_numbered : Numbered (tied_with file head words)
  tie_numbered = and_then (demands (is_precision head.preamble.precision) (plain 16) refl) (demands (is_tied file head words) (plain 36) refl)

  pub place_numbered : (location : Location) → Numbered (place_of (length file) head words location)
  unfolding place_of
  place_numbered location = let precision = head.preamble.precision in
      and_then (demands (is_precision precision) (plain 16) refl) (and_then (demands (is_headed words head.sections.metadata (length file)) (plain 36) refl)
      (and_then (demands (is_inside words (tile_of precision (fix_of location precision))) (plain 36) refl) answers))

-- ---- the search of given rows
module _ (judge : ℕ → ℕ → Judgement) (fix : Point) (judges : (place least : ℕ) → NumberedJudgement Known (judge place least)) where
  -- whatever the hits before them are, the search of these rows has a number of the list
  abbrev Sought : ℕ → Rows → Type 0
  Sought room rows = (least : ℕ) (hits : List Hit) → Numbered (seek_all judge fix room rows least hits)

  -- of rows that are read from records, in whichever form
  pub seeks : (row_of : List ℕ → ℕ → Row) (room : ℕ) (records numbers : List ℕ) → Sought room (rows_by row_of records numbers)
  unfolding rows_by seek_all
  seeks row_of room records [] = λ least hits. answers
  seeks row_of room records (k ∷ numbers) =
      either (Sought room) (ltb k (length records / 7)) {a = row (row_of records k) (rows_by row_of records numbers)} {b = T.refused 36} (λ least hits. after_turn_numbered
      refl hits room (row_turn_numbered judge fix judges (row_of records k) least) (seeks row_of room records numbers)) (λ least hits. refuses refl)

-- ---- a file that was read plainly: no number of it is 31
module _ (file : List ℕ) (head : Head) (plainly : head.strict ≡ false) where
  pub cut : head.strict ≡ true → Known 31
  cut e = differ (sym plainly ∙ e)

  matches : (location : Location) (asked : Bool) (records numbers : List ℕ) (room : ℕ) → Numbered (matched_listed file head location asked records numbers room)
  unfolding matched_listed searched_listed
  matches location asked records numbers room = let fix = fix_of location head.preamble.precision in
      and_then (demands (is_precision head.preamble.precision) (plain 16) refl)
      (then_reply (seeks (judge_in file head fix asked) fix (λ place least. judged_numbered refl refl file _ cut _ _ _ asked least) row_at room records numbers farthest []) (λ found. answers))

  listed : (location : Location) (asked : Bool) (records numbers : List ℕ) (n room : ℕ) → Numbered (zones_listed file head location asked records numbers n room)
  unfolding zones_listed
  listed location asked records numbers n room =
      then_reply (matches location asked records numbers (n / width)) (λ found. then_reply (fields refl refl refl refl file head cut room found.matches []) (λ text. answers))

  zones_numbered : (words : List ℕ) (location : Location) (asked : Bool) (n room : ℕ) → Numbered (zones_through file head words location asked n room)
  unfolding zones_through
  zones_numbered words location asked n room = then_reply (place_numbered file head words location) (λ place. listed location asked _ _ n room)

-- ---- the lookups
-- the file is opened first, plainly
pub opened : {B : Type 0} (file : List ℕ) (next : Head → Reply B) → ((head : Head) → head.strict ≡ false → Numbered (next head)) → Numbered (head_of file >>= next)
opened file next k = then_with (head_numbered known false differ file) (λ head e. k head (head_strict false file e))

module _ (file words : List ℕ) (location : Location) (asked : Bool) (n room : ℕ) (why : Refusal) where
  -- A lookup through an index that is not answered is refused with one of these, whatever the words are,
  pub through_refusals : (looked_through file words location asked n room).reply ≡ refused why → Listed through_numbers why.number
  unfolding looked_through
  through_refusals = number_of_lem (replied_numbered n room (opened file _ (λ head plainly. zones_numbered file head plainly words location asked n room)))

  -- and so is one that compares header and table first.
  pub indexed_refusals : (looked_indexed file words location asked n room).reply ≡ refused why → Listed through_numbers why.number
  unfolding looked_indexed
  indexed_refusals =
      number_of_lem (replied_numbered n room (opened file _ (λ head plainly. and_then (tie_numbered file head words) (zones_numbered file head plainly words location asked n room))))
