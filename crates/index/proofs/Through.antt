-- Lookups through an index, by how far the code came. Assumes nothing.
use Rattle.numbers.proofs.Prelude.{ℕ, ◌+◌, ◌*◌, ◌≤◌, leb-true, leb, length, Bool, ◌&&◌, List, ◌≡◌, ap, ◌∙◌, arith}
use Rattle.numbers.{proofs.{Replies.{carried, onward, demanded, given_one}, Tests.{both}}, specs.{Lists.{zeros}, Reply.{Reply, given, refused, plain, ◌>>◌}, declared.refusal.Refusal.{Refusal}}}
use Rattle.header.specs.{Header.{head_of}, declared.header.Head.{Head}}
use Rattle.table.specs.{Find.{fix_of, is_precision}, declared.location.Location.{Location}}
use Rattle.zones.specs.{Lent.{Outcome, replied, replied_of}, Lookup.{zones_listed, looked_listed}, declared.lookup.Zones.{Zones}}
use Rattle.index.proofs.Tying.{begin_inside, end_inside}
use Rattle.index.specs.{Index.{tiles, records_at}, Through.{start_of, is_inside, place_of, records_in, numbers_in, zones_through, looked_through, looked_indexed}, Tied.{word_at, is_headed, tied_with}}
use Rattle.index.specs.{Tiles.{tile_of}, declared.place.Place.{Place}}

-- ---- a list that stands, stands inside the words, and so do the records
pub place_inside : (long : ℕ) (head : Head) (words : List ℕ) (location : Location) {place : Place} → given place ≡ place_of long head words location
    → (records_at ≤ length words) × (records_at + 7 * word_at words 2 ≤ length words) × (place.from ≤ place.end) × (place.end ≤ length words)
unfolding place_of
place_inside long head words location {place} e = let precision = head.preamble.precision in let size = head.sections.metadata in
    let tile = tile_of precision (fix_of location precision) in let a = demanded (is_precision precision) (plain 16) e in
    let b = demanded (is_headed words size long) (plain 36) a.1 in let c = demanded (is_inside words tile) (plain 36) b.1 in
    let begin = begin_inside words size long b.0 in let end = end_inside words size long b.0 in
    let first = both (leb (start_of words 0) (start_of words tile)) (leb (start_of words tile) (start_of words (tile + 1)) && leb (start_of words (tile + 1)) (start_of words tiles)) c.0 in
    let second = both (leb (start_of words tile) (start_of words (tile + 1))) (leb (start_of words (tile + 1)) (start_of words tiles)) first.1 in
    let form = given_one c.1 in let from : place.from ≡ start_of words tile = ap (λ (p : Place). p.from) form in
    let to : place.end ≡ start_of words (tile + 1) = ap (λ (p : Place). p.end) form in (
      begin.0,
      omega (arith, begin.1),
      omega (arith, from, to, leb-true (start_of words tile) (start_of words (tile + 1)) second.0),
      omega (arith, to, leb-true (start_of words (tile + 1)) (start_of words tiles) second.1, end),
    )

-- ---- replies
module _ (n room : ℕ) where
  -- a refusal leaves zeros
  pub refused_zeros : {whole : Reply (Outcome Zones)} {why : Refusal} {hs ts : List ℕ} → refused why ≡ whole → hs ≡ zeros n → ts ≡ zeros room → replied (refused why) hs ts ≡ replied_of n room whole
  unfolding replied_of
  refused_zeros {why = why} e zh zt = (λ i. replied (refused why) (zh i) (zt i)) ∙ ap (replied_of n room) e

  module _ (file words : List ℕ) (location : Location) (asked : Bool) where
    abbrev within : Head → Reply (Outcome Zones)
    within head = zones_through file head words location asked n room

    pub no_place : (head : Head) {why : Refusal} → refused why ≡ place_of (length file) head words location → refused why ≡ within head
    unfolding zones_through
    no_place head e = carried e _

    pub listed_there : (head : Head) {place : Place} {records numbers : List ℕ} → given place ≡ place_of (length file) head words location → records ≡ records_in words
        → numbers ≡ numbers_in words place
        → looked_listed file head location asked records numbers n room ≡ replied_of n room (within head)
    unfolding zones_through looked_listed
    listed_there head e r k = (λ i. replied_of n room (zones_listed file head location asked (r i) (k i) n room)) ∙
        ap (replied_of n room) (onward e (λ (place : Place). zones_listed file head location asked (records_in words) (numbers_in words place) n room))

    -- the file is opened first
    pub through_unopened : {why : Refusal} {hs ts : List ℕ} → refused why ≡ head_of file → hs ≡ zeros n → ts ≡ zeros room
        → replied (refused why) hs ts ≡ looked_through file words location asked n room
    unfolding looked_through
    through_unopened e zh zt = refused_zeros (carried e within) zh zt

    pub through_opened : {head : Head} → given head ≡ head_of file → replied_of n room (within head) ≡ looked_through file words location asked n room
    unfolding looked_through
    through_opened e = ap (replied_of n room) (onward e within)

    abbrev after : Head → Reply (Outcome Zones)
    after head = tied_with file head words >> within head

    pub indexed_unopened : {why : Refusal} {hs ts : List ℕ} → refused why ≡ head_of file → hs ≡ zeros n → ts ≡ zeros room
        → replied (refused why) hs ts ≡ looked_indexed file words location asked n room
    unfolding looked_indexed
    indexed_unopened e zh zt = refused_zeros (carried e after) zh zt

    module _ {head : Head} (e : given head ≡ head_of file) where
      pub indexed_untied : {why : Refusal} {hs ts : List ℕ} → refused why ≡ tied_with file head words → hs ≡ zeros n → ts ≡ zeros room →
          replied (refused why) hs ts ≡ looked_indexed file words location asked n room
      unfolding looked_indexed
      indexed_untied t zh zt = refused_zeros (ap (λ (r : Reply (Unit {0})). r >> within head) t ∙ onward e after) zh zt

      pub indexed_tied : given tt ≡ tied_with file head words → replied_of n room (within head) ≡ looked_indexed file words location asked n room
      unfolding looked_indexed
      indexed_tied t = ap (replied_of n room) (ap (λ (r : Reply (Unit {0})). r >> within head) t ∙ onward e after)
