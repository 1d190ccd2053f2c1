-- `through_is_plain`, `indexed_is_plain`: a lookup through an index that building gave is the plain lookup. Assumes nothing.
use Rattle.numbers.{proofs.{Laws.{cut32_fits}, Prelude.{ℕ, ◌-◌, ◌/◌, length, Bool, true, List, [], ◌++◌, ◌≡◌, refl, sym, ap, ◌∙◌, w32, SFits}, Replies.{given_from, onward}}, specs.Float.{fixed_point}}
use Rattle.numbers.specs.{Lists.{zeros}, Reply.{Reply, given, refused, plain, demand, ◌>>=◌, ◌>>◌}, declared.refusal.Refusal.{Refusal}}
use Rattle.border.specs.declared.place.Point.{Point}
use Rattle.header.{proofs.SameHead.{same_head, metadata_small}, specs.{Header.{head_of}, declared.header.Head.{Head}}}
use Rattle.table.{proofs.InOrder.{early_stop_loses_nothing, rows_left_out}, specs.{Find.{fix_of, is_precision, Matched, matched_with}, GivenRows.{searched_listed, matched_listed}, Hits.{width}}}
use Rattle.table.specs.{Merge.{merged}, Rows.{Rows}, Search.{Found, judge_in, farthest, searched}, Unstopped.{seek_all}, declared.{location.Location.{Location}, rows.Row.{Row}}}
use Rattle.zones.{proofs.RefusalZeroes.{both_zero}, specs.{Lent.{replied_of}, Lookup.{zones_from, zones_with, zones_in, zones_listed, looked_up}}}
use Rattle.index.proofs.{BuiltIsTied.{index_is_tied}, LaidOut.{records_there, list_stands, list_of_tile}, Numbering.{table_sound}, SameIndex.{same_index}, TableInOrder.{table_in_order}}
use Rattle.index.proofs.{Thinning.{thinned}, Through.{through_opened, indexed_tied}, TiedSame.{built_from, tied_same}, Tying.{with_so}}
use Rattle.index.specs.{Complete.{Bytes, SameFront}, Index.{records_of, list_of, index_of, Indexed, indexed_of}, Table.{table_of}}
use Rattle.index.specs.{Through.{records_in, numbers_in, zones_through, looked_through, looked_indexed}, Tied.{tied_with, tied_of}, Tiles.{tile_of}, declared.place.Place.{Place}}

-- ---- fixed coordinates fit
lat_fits : (location : Location) (precision : ℕ) → SFits w32 (fix_of location precision).lat.0
unfolding fix_of fixed_point
lat_fits location precision = cut32_fits _

lon_fits : (location : Location) (precision : ℕ) → SFits w32 (fix_of location precision).lon.0
unfolding fix_of fixed_point
lon_fits location precision = cut32_fits _

-- ---- a file, its header and rows, and the words of its index
module _ (file : List ℕ) (head : Head) (rows : List Row) (rest : List ℕ) (opened : given head ≡ head_of file) (precise : is_precision head.preamble.precision ≡ true)
    (listed : given rows ≡ table_of file head) (location : Location) (asked : Bool) where
  abbrev precision : ℕ
  precision = head.preamble.precision

  abbrev fix : Point
  fix = fix_of location precision

  abbrev words : List ℕ
  words = index_of file head rows ++ rest

  abbrev numbers : List ℕ
  numbers = list_of precision rows (tile_of precision fix)

  -- the search of the tile's list finds what that of the table finds
  same_search : (room : ℕ) → searched_listed file head fix asked (records_of rows) numbers room ≡ searched file head fix asked room
  unfolding searched_listed searched
  same_search room = let order = table_in_order file head listed in let sound = table_sound file head (metadata_small _ file opened) listed in
      let judge = judge_in file head fix asked in
      sym (early_stop_loses_nothing head.sections.metadata fix judge room order.1 farthest [] ∙ ap (λ (table : Rows). seek_all judge fix room table farthest []) order.0
      ∙ rows_left_out judge fix room (thinned precision fix (lat_fits location precision) (lon_fits location precision) sound) farthest [])

  pub same_matched : (room : ℕ) → matched_listed file head location asked (records_of rows) numbers room ≡ matched_with file head location asked room
  unfolding matched_listed matched_with
  same_matched room =
      ap (λ (reply : Reply Found). demand (is_precision precision) (plain 16) >>
      (reply >>= λ found. given (record { matches = merged found.hits; mark = found.mark; least = found.least }))) (same_search room)

  module _ (n room : ℕ) where
    same_zones : zones_through file head words location asked n room ≡ zones_with file head location asked n room
    unfolding zones_through zones_listed zones_with
    same_zones =
        sym (onward (list_stands file head rows rest location precise)
        (λ (place : Place). zones_from file head asked room (matched_listed file head location asked (records_in words) (numbers_in words place) (n / width))))
        ∙ (λ i. zones_from file head asked room (matched_listed file head location asked (records_there file head rows rest i) (list_of_tile file head rows rest location i) (n / width)))
        ∙ ap (λ (reply : Reply Matched). zones_from file head asked room reply) (same_matched (n / width))

    plainly : replied_of n room (zones_through file head words location asked n room) ≡ looked_up file location asked n room
    unfolding looked_up zones_in
    plainly = ap (replied_of n room) (same_zones ∙ onward opened (λ (h : Head). zones_with file h location asked n room))

    through_plainly : looked_through file words location asked n room ≡ looked_up file location asked n room
    through_plainly = sym (through_opened n room file words location asked opened) ∙ plainly

    indexed_plainly : looked_indexed file words location asked n room ≡ looked_up file location asked n room
    indexed_plainly = sym (indexed_tied n room file words location asked opened (with_so file head words precise (index_is_tied file head rows rest))) ∙ plainly

-- ---- words that building gave for this file
module _ (file : List ℕ) (lent : ℕ) {used : ℕ} (e : (indexed_of file lent).reply ≡ given used) (location : Location) (asked : Bool) (n room : ℕ) where
  abbrev given_words : List ℕ
  given_words = (indexed_of file lent).words

  pub own_through : looked_through file given_words location asked n room ≡ looked_up file location asked n room
  own_through = let b = built_from file lent e in
      ap (λ (w : List ℕ). looked_through file w location asked n room) b.whole ∙
      through_plainly file b.head b.rows (zeros (lent - length (index_of file b.head b.rows))) b.opened b.precise b.listed location asked n room

  pub own_indexed : looked_indexed file given_words location asked n room ≡ looked_up file location asked n room
  own_indexed = let b = built_from file lent e in
      ap (λ (w : List ℕ). looked_indexed file w location asked n room) b.whole ∙
      indexed_plainly file b.head b.rows (zeros (lent - length (index_of file b.head b.rows))) b.opened b.precise b.listed location asked n room

-- ---- words that building gave for a file with the same length, header and table
module _ (file file' : List ℕ) (lent : ℕ) {used : ℕ} (e : (indexed_of file lent).reply ≡ given used) {head head' : Head} (opened : given head ≡ head_of file) (opened' : given head' ≡ head_of file')
    (same : SameFront head.sections.metadata file file') where
  index_there : indexed_of file lent ≡ indexed_of file' lent
  index_there = let one : head ≡ head' = same_head _ file file' opened opened' same.long same.bytes in
      same_index file file' head same.long same.bytes opened (ap given one ∙ opened') lent

  given_there : (indexed_of file' lent).reply ≡ given used
  given_there = ap (λ (i : Indexed). i.reply) (sym index_there) ∙ e

  -- Lookup with a comparison, through words that building gave for a file with the length, header and table of the one asked, is the plain lookup: matches, mark, safezone,
  -- refusals and all lent output.
  pub indexed_is_plain : (location : Location) (asked : Bool) (n room : ℕ) → looked_indexed file' (indexed_of file lent).words location asked n room ≡ looked_up file' location asked n room
  indexed_is_plain location asked n room =
      ap (λ (i : Indexed). looked_indexed file' i.words location asked n room) index_there ∙ own_indexed file' lent given_there location asked n room

  alike_through : (location : Location) (asked : Bool) (n room : ℕ) → looked_through file' (indexed_of file lent).words location asked n room ≡ looked_up file' location asked n room
  alike_through location asked n room =
      ap (λ (i : Indexed). looked_through file' i.words location asked n room) index_there ∙ own_through file' lent given_there location asked n room

-- Where `index_tied` said yes of words that building gave, for whichever file, lookup without a comparison is the plain lookup.
pub through_is_plain : (file file' : List ℕ) (lent : ℕ) {used : ℕ} → (indexed_of file lent).reply ≡ given used → Bytes file → Bytes file' → given tt ≡ tied_of file' (indexed_of file lent).words
    → (location : Location) (asked : Bool) (n room : ℕ) → looked_through file' (indexed_of file lent).words location asked n room ≡ looked_up file' location asked n room
unfolding tied_of
through_is_plain file file' lent e bytes bytes' tied = let b = built_from file lent e in let there = given_from (head_of file') _ tied in
    alike_through file file' lent e b.opened there.is (tied_same file file' lent e b.opened there.is bytes bytes' tied)

-- Every file shares its own front: an index of the file itself is one of these.
pub own_front : (size : ℕ) (file : List ℕ) → SameFront size file file
own_front size file = record { long = refl; bytes = refl }

-- A refused lookup through an index leaves every word of the hit list and every byte of the text zero, whatever the words are.
module _ (file words : List ℕ) (location : Location) (asked : Bool) (n room : ℕ) (why : Refusal) where
  pub through_refusal_zeroes : (looked_through file words location asked n room).reply ≡ refused why
      → ((looked_through file words location asked n room).hits ≡ zeros n) × ((looked_through file words location asked n room).text ≡ zeros room)
  unfolding looked_through
  through_refusal_zeroes = both_zero n room (head_of file >>= λ head. zones_through file head words location asked n room) why

  pub indexed_refusal_zeroes : (looked_indexed file words location asked n room).reply ≡ refused why
      → ((looked_indexed file words location asked n room).hits ≡ zeros n) × ((looked_indexed file words location asked n room).text ≡ zeros room)
  unfolding looked_indexed
  indexed_refusal_zeroes = both_zero n room (head_of file >>= λ head. tied_with file head words >> zones_through file head words location asked n room) why
