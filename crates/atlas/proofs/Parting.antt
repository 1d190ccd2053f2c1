-- Where the parts of an atlas stand, by how far the code came. Assumes nothing.
use Rattle.numbers.proofs.Prelude.{ℕ, ◌+◌, ◌-◌, ◌*◌, ◌/◌, ◌≤◌, ◌<◌, lt-ltb, ltb-true, ltb, leb, length, take, drop, get_or, length-drop, take_all, Bool, true, false, List, ◌≡◌, ap, ◌∙◌, arith}
use Rattle.numbers.{proofs.{Replies.{carried, onward, met, unmet, given_from, given_one, demanded}, Tests.{both}}, specs.{Lists.{zeros}, Reply.{Reply, given, refused, plain}}}
use Rattle.numbers.specs.declared.refusal.Refusal.{Refusal}
use Rattle.header.specs.{Header.{head_of}, declared.header.Head.{Head}}
use Rattle.index.{proofs.{Sides.{and_rest}, Through.{place_inside, refused_zeros}}, specs.{Index.{tiles, records_at}, Through.{start_of, is_inside, place_of}, Tied.{word_at, is_headed}}}
use Rattle.index.specs.{Tiles.{tile_of}, declared.place.Place.{Place}}
use Rattle.table.specs.{Find.{Matched, fix_of, is_precision}, Hits.{width}, MarkedRows.{matched_marked}, declared.location.Location.{Location}}
use Rattle.zones.specs.{Lent.{replied, replied_of}, Lookup.{zones_from}, Marked.{zones_marked, looked_marked}}
use Rattle.atlas.specs.{Looked.{is_whole, parts_of, part_in, matched_atlas, zones_atlas, looked_atlas}, declared.parts.Parts.{Parts}}

pub whole_inside : (words : List ℕ) → is_whole words ≡ true → start_of words tiles < length words
whole_inside words e = ltb-true (start_of words tiles) (length words) (both (ltb (start_of words tiles) (length words)) (leb (word_at words (start_of words tiles)) (length words)) e).0

-- the words from a place on
pub part_rest : (words : List ℕ) (from : ℕ) → take (length words - from) (drop from words) ≡ drop from words
part_rest words from = take_all (length words - from) (drop from words) (omega (arith, length-drop from words))

pub whole_so : (words : List ℕ) {end word : ℕ} → end ≡ word_at words 2051 → end < length words → word ≡ get_or words end 0 → leb word (length words) ≡ is_whole words
whole_so words e h w =
    ap (λ (x : ℕ). leb x (length words)) (w ∙ ap (λ (k : ℕ). get_or words k 0) e)
    ∙ and_rest (ltb (start_of words tiles) (length words)) _ (lt-ltb (start_of words tiles) (length words) (omega (arith, h, e)))

module _ (long : ℕ) (head : Head) (words : List ℕ) (location : Location) where
  pub no_parts : {why : Refusal} → refused why ≡ place_of long head words location → refused why ≡ parts_of long head words location
  unfolding parts_of
  no_parts e = carried e _

  pub cut_parts : {place : Place} → given place ≡ place_of long head words location → is_whole words ≡ false → refused (plain 36) ≡ parts_of long head words location
  unfolding parts_of
  cut_parts e w = unmet w (plain 36) _ ∙ onward e _

  pub parts_there : {place : Place} → given place ≡ place_of long head words location → is_whole words ≡ true → {rows last : ℕ} → rows ≡ word_at words 2 → last ≡ start_of words tiles
      → given (record { behind = records_at + 7 * rows; from = place.from; end = place.end; beside = last + 1 }) ≡ parts_of long head words location
  unfolding parts_of
  parts_there {place} e w r l =
      (λ i. given (record { behind = records_at + 7 * r i; from = place.from; end = place.end; beside = l i + 1 })) ∙ met w (plain 36) _ ∙ onward e _

  -- they stand inside the words
  pub record Inside (parts : Parts) : Type 0 where
    pub records : records_at ≤ parts.behind
    pub behind : parts.behind ≤ length words
    pub list : parts.from ≤ parts.end
    pub end : parts.end ≤ length words
    pub beside : parts.beside ≤ length words

  pub parts_inside : {parts : Parts} → given parts ≡ parts_of long head words location → Inside parts
  unfolding parts_of
  parts_inside {parts} e = let p = given_from (place_of long head words location) _ e in let w = demanded (is_whole words) (plain 36) p.onto in
      let at = place_inside long head words location p.is in let form = given_one w.1 in let behind = ap (λ (x : Parts). x.behind) form in
      let from = ap (λ (x : Parts). x.from) form in let end = ap (λ (x : Parts). x.end) form in let beside = ap (λ (x : Parts). x.beside) form in record {
        records = omega (arith, behind);
        behind = omega (arith, behind, at.1);
        list = omega (arith, from, end, at.2);
        end = omega (arith, end, at.3);
        beside = omega (arith, beside, whole_inside words w.0);
      }

-- the list of a tile ends at a word
pub list_end : (long : ℕ) (head : Head) (words : List ℕ) (location : Location) {parts : Parts} → given parts ≡ parts_of long head words location → (k : ℕ) × (parts.end ≡ get_or words k 0)
unfolding parts_of place_of
list_end long head words location {parts} e = let precision = head.preamble.precision in let tile = tile_of precision (fix_of location precision) in
    let p = given_from (place_of long head words location) _ e in let a = demanded (is_precision precision) (plain 16) p.is in
    let b = demanded (is_headed words head.sections.metadata long) (plain 36) a.1 in let c = demanded (is_inside words tile) (plain 36) b.1 in
    let w = demanded (is_whole words) (plain 36) p.onto in
    (3 + (tile + 1), ap (λ (x : Parts). x.end) (given_one w.1) ∙ ap (λ (x : Place). x.end) (given_one c.1))

-- ---- replies
module _ (n room : ℕ) (file words : List ℕ) (location : Location) (asked : Bool) where
  pub atlas_nowhere : (head : Head) {why : Refusal} {hs ts : List ℕ} → refused why ≡ parts_of (length file) head words location → hs ≡ zeros n → ts ≡ zeros room
      → replied (refused why) hs ts ≡ replied_of n room (zones_atlas file head words location asked n room)
  unfolding zones_atlas matched_atlas
  atlas_nowhere head e zh zt = refused_zeros n room (carried (carried e _) _) zh zt

  pub atlas_there : (head : Head) {parts : Parts} → given parts ≡ parts_of (length file) head words location → {records numbers marks : List ℕ}
      → records ≡ part_in words records_at parts.behind → numbers ≡ part_in words parts.from parts.end → marks ≡ drop parts.beside words
      → looked_marked file head location asked records numbers marks n room ≡ replied_of n room (zones_atlas file head words location asked n room)
  unfolding zones_atlas matched_atlas looked_marked zones_marked
  atlas_there head e r k m =
      (λ i. replied_of n room (zones_marked file head location asked (r i) (k i) (m i) n room))
      ∙ ap (λ (matched : Reply Matched). replied_of n room (zones_from file head asked room matched))
      (onward e (λ (p : Parts). matched_marked file head location asked (part_in words records_at p.behind) (part_in words p.from p.end) (drop p.beside words) (n / width)))

  pub atlas_unopened : {why : Refusal} {hs ts : List ℕ} → refused why ≡ head_of file → hs ≡ zeros n → ts ≡ zeros room → replied (refused why) hs ts ≡ looked_atlas file words location asked n room
  unfolding looked_atlas
  atlas_unopened e zh zt = refused_zeros n room (carried e (λ (head : Head). zones_atlas file head words location asked n room)) zh zt

  pub atlas_opened : {head : Head} → given head ≡ head_of file → replied_of n room (zones_atlas file head words location asked n room) ≡ looked_atlas file words location asked n room
  unfolding looked_atlas
  atlas_opened e = ap (replied_of n room) (onward e (λ (head : Head). zones_atlas file head words location asked n room))
