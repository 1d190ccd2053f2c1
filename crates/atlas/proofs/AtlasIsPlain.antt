-- `atlas_is_plain`: a lookup through words that are the file's atlas is the plain lookup. Assumes nothing.
use Rattle.numbers.proofs.Prelude.{ℕ, ◌+◌, ◌-◌, ◌*◌, ◌/◌, ◌%◌, ◌^◌, ◌≤◌, ◌<◌, eq-eqb, ne_eqb, lt-ltb, le-leb, ltb-true, eqb, ltb, leb, length, take, drop, get_or, length-append, Bool, true, List, []}
use Rattle.numbers.proofs.{Prelude.{◌∷◌, ◌++◌, append_assoc, append-nil, ◌↔◌, ◌≡◌, refl, sym, ap, subst, ◌∙◌, mod-eq_of_lt, arith}, Replies.{given_from, demanded, given_one, onward, met, demand_met}}
use Rattle.numbers.{proofs.Tests.{both}, specs.{Answer.{if◌then◌else◌}, Lists.{zeros, padded}, Reply.{Reply, given, refused, plain, demand, ◌>>=◌}}}
use lib.Seq.{drop-append-add, get_or-append_seam}
use Rattle.border.specs.declared.place.Point.{Point}
use Rattle.header.specs.{Header.{head_of}, declared.header.Head.{Head}}
use Rattle.index.proofs.{LaidOut.{records_there, list_stands, list_of_tile}, Standing.{same_words, same_self, so_both}, Tabling.{records_length}, ThroughIsPlain.{same_matched}}
use Rattle.index.specs.Index.{records_of, list_of, tiles, records_at, index_of, has_room, built_with, built_in, Indexed, indexed, indexed_by}
use Rattle.index.specs.{Table.{table_of}, Through.{start_of}, Tied.{word_at}, Tiles.{tile_of}}
use Rattle.marks.{proofs.{MarkedIsPlain.{marked_is_plain}, ReadBack.{At}}, specs.{Judging.{judged_by}, Marks.{low}}}
use Rattle.table.proofs.MarkedAlike.{Right, matched_alike}
use Rattle.table.specs.{Find.{fix_of, is_precision, matched_with}, GivenRows.{record_word}, Hits.{width}, MarkedRows.{encoding_in, judge_marked, matched_marked}}
use Rattle.table.specs.{Search.{judge_in}, declared.{location.Location.{Location}, rows.Row.{Row}}}
use Rattle.verdict.specs.Verdict.{Judgement}
use Rattle.zones.specs.{Lent.{replied_of}, Lookup.{zones_from, zones_with, zones_in, looked_up}}
use Rattle.atlas.proofs.Beside.{marks_stand, marks_inside, entry_there, marks_length, marks_of, index_ends}
use Rattle.atlas.specs.Atlas.{marks_for, marks_in, entry_of, beside_of, atlas_of, atlas_with, atlas_in, atlas_made, is_made, is_atlas_of}
use Rattle.atlas.specs.{Looked.{is_whole, parts_of, part_in, matched_atlas, zones_atlas, looked_atlas}, declared.parts.Parts.{Parts}}
use Rattle.atlas.proofs.Beside as S

-- ---- each border is judged by its marks as it is without them
module _ (file : List ℕ) (head : Head) (fix : Point) (asked : Bool) (marks : List ℕ) (polygon least : ℕ) where
  abbrev plainly : Judgement
  plainly = judge_in file head fix asked polygon least

  by_list : (at : ℕ) (list : List ℕ) (word : ℕ) → word ≡ entry_of at list → list ≡ marks_for file head polygon → At marks at list → at + length list ≤ length marks → 0 < at → at < 2 ^ 32
      → (if eqb word 0 then plainly else judged_by file (encoding_in head) marks word fix.lat fix.lon asked least) ≡ plainly
  unfolding entry_of
  by_list at [] word e is here fits some small = rw (eq-eqb word 0 e)
  by_list at (x ∷ xs) word e is here fits some small = let w : word ≡ at = e ∙ mod-eq_of_lt small in let long : 0 < length (x ∷ xs) = omega arith in
      rw (ne_eqb word 0 (λ z. omega (arith, w, z, some))) (ap (λ (j : ℕ). judged_by file (encoding_in head) marks j fix.lat fix.lon asked least) w
      ∙ marked_is_plain file (encoding_in head) ((head.sections.«data» + polygon) % 2 ^ 32) marks at fix.lat fix.lon asked least
      (subst (λ (l : List ℕ). 0 < length l) is long) (subst (At marks at) is here) (subst (λ (l : List ℕ). at + length l ≤ length marks) is fits))

module _ (file : List ℕ) (head : Head) (rows : List Row) (tail : List ℕ) (few : length (beside_of (marks_in file head rows)) < 2 ^ 32) where
  abbrev lists : List (List ℕ)
  lists = marks_in file head rows

  abbrev marks : List ℕ
  marks = beside_of lists ++ tail

  right : (asked : Bool) (fix : Point) → Right file head asked (records_of rows) marks fix
  unfolding judge_marked
  right asked fix k inside least = let h : k < length rows = omega (arith, inside, records_length rows) in
      let l : k < length lists = omega (arith, h, marks_length file head rows) in
      by_list file head fix asked marks (record_word (records_of rows) k 2) least (S.place_of lists tail k l) (get_or lists k []) (get_or marks k 0)
      (entry_there lists tail k l) (marks_of file head rows k h) (marks_stand lists tail k l) (marks_inside lists tail k l)
      (omega (arith, l)) (omega (arith, few, marks_inside lists [] k l, ap length (append-nil (beside_of lists))))

-- ---- a file, its header and rows, and the words of its atlas
module _ (file : List ℕ) (head : Head) (rows : List Row) (tail : List ℕ) (opened : given head ≡ head_of file) (precise : is_precision head.preamble.precision ≡ true)
    (listed : given rows ≡ table_of file head) (small : length (atlas_of file head rows) < 2 ^ 32) (location : Location) (asked : Bool) where
  abbrev index : List ℕ
  index = index_of file head rows

  abbrev beside : List ℕ
  beside = beside_of (marks_in file head rows)

  abbrev total : ℕ
  total = length index + 1 + length beside

  abbrev rest : List ℕ
  rest = low total ∷ (beside ++ tail)

  abbrev words : List ℕ
  words = index ++ rest

  abbrev tile : ℕ
  tile = tile_of head.preamble.precision (fix_of location head.preamble.precision)

  abbrev parts : Parts
  parts = record { behind = records_at + 7 * word_at words 2; from = start_of words tile; end = start_of words (tile + 1); beside = start_of words tiles + 1 }

  atlas_long : length (atlas_of file head rows) ≡ total
  unfolding atlas_of
  atlas_long = omega (arith, length-append index (low total ∷ beside))

  words_long : length words ≡ total + length tail
  words_long = omega (arith, length-append index rest, length-append beside tail)

  -- the index ends where its last list does
  ends : start_of words tiles ≡ length index
  ends = index_ends file head rows rest

  length_there : word_at words (start_of words tiles) ≡ low total
  length_there = ap (λ (k : ℕ). get_or words k 0) ends ∙ get_or-append_seam index (low total) (beside ++ tail) 0

  whole_here : is_whole words ≡ true
  whole_here =
      so_both (ltb (start_of words tiles) (length words)) (leb (word_at words (start_of words tiles)) (length words)) (lt-ltb (start_of words tiles) (length words)
      (omega (arith, ends, words_long))) (le-leb (word_at words (start_of words tiles)) (length words) (omega (arith, length_there, fits, words_long))) where
        fits : low total ≡ total
        fits = mod-eq_of_lt (omega (arith, small, atlas_long))

  parts_stand : given parts ≡ parts_of (length file) head words location
  unfolding parts_of
  parts_stand = met whole_here (plain 36) (given parts) ∙ onward (list_stands file head rows rest location precise) _

  records_part : part_in words records_at parts.behind ≡ records_of rows
  records_part = let k : records_at + 7 * word_at words 2 - records_at ≡ 7 * word_at words 2 = omega arith in
      ap (λ (j : ℕ). take j (drop records_at words)) k ∙ records_there file head rows rest

  marks_part : drop parts.beside words ≡ beside ++ tail
  marks_part = ap (λ (k : ℕ). drop (k + 1) words) ends ∙ drop-append-add index rest 1

  abbrev numbers : List ℕ
  numbers = list_of head.preamble.precision rows tile

  same_found : (room : ℕ) → matched_atlas file head words location asked room ≡ matched_with file head location asked room
  unfolding matched_atlas
  same_found room =
      sym (onward parts_stand (λ (p : Parts). matched_marked file head location asked (part_in words records_at p.behind) (part_in words p.from p.end) (drop p.beside words) room))
      ∙ (λ i. matched_marked file head location asked (records_part i) (list_of_tile file head rows rest location i) (marks_part i) room) ∙ matched_alike file
      head asked (records_of rows) (beside ++ tail) (right file head rows tail few asked) location numbers room ∙ same_matched file head rows rest opened precise listed location asked room where
        few : length beside < 2 ^ 32
        few = omega (arith, small, atlas_long)

-- ---- exactly the words that building leaves
module _ (words : List ℕ) where
  made_is : (reply : Reply ℕ) (built : List ℕ) → is_made words reply built ≡ true → (used : ℕ) × (indexed reply built ≡ indexed (given used) words)
  unfolding is_made
  made_is (given used) built e = (used, ap (indexed (given used)) (sym (same_words words built e)))
  made_is (refused why) built e = let z : ◌≡◌ {A = ℕ} 0 1 = cc in absurd (omega arith)

  itself_made : (used : ℕ) → is_made words (given used) words ≡ true
  unfolding is_made
  itself_made used = same_self words

-- `is_atlas` says 0 exactly where building, lent as many words, gives and leaves these for this file: built_is_atlas and atlas_is_built.
pub is_atlas_exactly : (file words : List ℕ) → (is_atlas_of file words ≡ given tt) ↔ ((used : ℕ) × (atlas_made file (length words) ≡ indexed (given used) words))
unfolding is_atlas_of
is_atlas_exactly file words = (
  (λ e. made_is words (atlas_made file (length words)).reply (atlas_made file (length words)).words (demand_met _ (plain 36) e)),
  (λ built. ap (λ (i : Indexed). demand (is_made words i.reply i.words) (plain 36)) built.1 ∙ ap (λ (b : Bool). demand b (plain 36)) (itself_made words built.0)),
)

-- what building gave: the atlas of the file's header and rows, with room
pub record MadeFrom (file : List ℕ) (n : ℕ) (words : List ℕ) : Type 0 where
  pub head : Head
  pub opened : given head ≡ head_of file
  pub precise : is_precision head.preamble.precision ≡ true
  pub rows : List Row
  pub listed : given rows ≡ table_of file head
  pub room : has_room n (length (atlas_of file head rows)) ≡ true
  pub whole : words ≡ padded n (atlas_of file head rows)

pub made_from : (file : List ℕ) (n : ℕ) {used : ℕ} → (atlas_made file n).reply ≡ given used → MadeFrom file n (atlas_made file n).words
unfolding atlas_made indexed_by built_in built_with
made_from file n {used} e = go (atlas_in file n) refl e where
  go : (reply : Reply (List ℕ)) → reply ≡ atlas_in file n → (indexed_by n reply).reply ≡ given used → MadeFrom file n (indexed_by n reply).words
  go (given words) w e = let h = given_from (head_of file) (λ (head : Head). atlas_with file head n) w in
      let p = demanded (is_precision h.it.preamble.precision) (plain 16) h.onto in let t = given_from (table_of file h.it) _ p.1 in
      let r = demanded (has_room n (length (atlas_of file h.it t.it))) (plain 35) t.onto in
      record { head = h.it; opened = h.is; precise = p.0; rows = t.it; listed = t.is; room = r.0; whole = ap (padded n) (given_one r.1) }
  go (refused why) w e = let z : ◌≡◌ {A = ℕ} 0 1 = cc in absurd (omega arith)

-- the search through them is the plain search, in the file's own header
pub found_is_plain : (file words : List ℕ) → is_atlas_of file words ≡ given tt → {head : Head} → given head ≡ head_of file → (location : Location) (asked : Bool) (room : ℕ)
    → matched_atlas file head words location asked room ≡ matched_with file head location asked room
unfolding atlas_of
found_is_plain file words e opened location asked room = let built = (is_atlas_exactly file words).0 e in
    let m = made_from file (length words) (ap (λ (i : Indexed). i.reply) built.1) in
    let small = (both (leb (length (atlas_of file m.head m.rows)) (length words)) (ltb (length (atlas_of file m.head m.rows)) (2 ^ 32)) m.room).1 in
    let beside = beside_of (marks_in file m.head m.rows) in let index = index_of file m.head m.rows in
    let behind = zeros (length words - length (atlas_of file m.head m.rows)) in
    let is : words ≡ index ++ (low (length index + 1 + length beside) ∷ (beside ++ behind)) = ap (λ (i : Indexed). i.words) (sym built.1) ∙ m.whole
    ∙ append_assoc index (low (length index + 1 + length beside) ∷ beside) behind in
    subst (λ (h : Head). matched_atlas file h words location asked room ≡ matched_with file h location asked room) (given_one (m.opened ∙ sym opened))
    (ap (λ (w : List ℕ). matched_atlas file m.head w location asked room) is
    ∙ same_found file m.head m.rows behind m.opened m.precise m.listed (ltb-true (length (atlas_of file m.head m.rows)) (2 ^ 32) small) location asked room)

-- what goes on alike after a reply
pub alike_from : {A B : Type 0} (reply : Reply A) {next next' : A → Reply B} → ((a : A) → given a ≡ reply → next a ≡ next' a) → (reply >>= next) ≡ (reply >>= next')
alike_from (given a) alike = alike a refl
alike_from (refused why) alike = refl

-- Where `is_atlas` says 0 of file and words, whoever wrote them, a lookup through them is the plain lookup: matches with their places, mark, safezone, refusals and all lent output.
pub atlas_is_plain : (file words : List ℕ) → is_atlas_of file words ≡ given tt → (location : Location) (asked : Bool) (n room : ℕ)
    → looked_atlas file words location asked n room ≡ looked_up file location asked n room
unfolding looked_atlas zones_atlas looked_up zones_in zones_with
atlas_is_plain file words e location asked n room =
    ap (replied_of n room) (alike_from (head_of file) (λ head opened. ap (zones_from file head asked room) (found_is_plain file words e opened location asked (n / width))))
