-- What was laid out of the held yards gives their totals. Assumes nothing.
use Rattle.numbers.proofs.Prelude.{false, ℕ, ◌+◌, ◌*◌, ◌^◌, ◌≤◌, ◌<◌, eqb-false, eqb, ℤ, length, take, drop, get_or, Bool, List, [], ◌++◌, map, zip_with, ◌≡◌, sym, ap, ◌∙◌, mul_comm}
use Rattle.numbers.proofs.Prelude.{arith}
use Rattle.builder.proofs.Counting.{lengths_room}
use Rattle.builder.specs.{Borders.{Drawn}, Entries.{entry_of_word, highest_of, lowest_of, table_from, table_of, word_of_yard}, File.{entry_of}, Grouping.Keys.{numbers_from}}
use Rattle.builder.specs.{Metadata.{fields_of, layout_of, metadata_of, records_of}, Sharing.{firsts, same_texts}, Yards.{Text, Yard, sum_of}, inner.Drawing.Section.{spread}}
use Rattle.build.{proofs.{entries.Tabled.{begins_are, table_over}, recording.{Fewer.{map_same}, Spreading.{spread_read, spread_size}, Written.{recorded_size}}}, specs.Entries.Corners.{corners_of}}
use Rattle.build.specs.Metadata.Kept.{begin_of, values_to}
use Rattle.draft.proofs.held.Valued.{souths_from, held_all, held_boxes, held_values, held_whole}
use Rattle.draft.specs.{Held.{State.{Stands}, Totals.{totals_for}}, inner.Summed.Sums.{Arranged, SumsUp, begins_of, souths_of}}
use Rattle.layout.specs.Order.{key_of, sorted_by}
use Rattle.std.specs.Prelude.{Some, None}

module _ (yards : List Yard) (drawn : Drawn) (names count : ℕ) (boxes : List ℤ) (borders lengths texts : List ℕ) (s : Stands yards drawn names count boxes borders lengths texts) where
  own_whole : length texts ≡ sum_of lengths
  own_whole = held_whole yards drawn names count boxes borders lengths texts s

  own_values : map (λ (y : Yard). y.values) yards ≡ values_to names lengths texts count
  own_values = held_values yards drawn names count boxes borders lengths texts s

  own_boxes : boxes ≡ corners_of yards ++ drop (4 * count) boxes
  own_boxes = held_boxes yards drawn names count boxes borders lengths texts s

  pub held_greatest : highest_of (souths_of boxes count) ≡ highest_of (map (λ (y : Yard). lowest_of y.lats) yards)
  unfolding souths_of
  held_greatest = ap (λ (n : ℕ). highest_of (souths_of boxes n)) s.many ∙ ap highest_of (souths_from boxes 0 yards (drop (4 * count) boxes) own_boxes)

  module _ (before keys kept held words places : List ℕ) (records remote sizes bytes : ℕ)
      (a : Arranged names count boxes borders lengths texts before keys kept held words places records remote sizes bytes) where
    pub held_table : 2 * count ≤ length before → table_from 0 0 (map (entry_of_word boxes places) (take count keys)) ≡ table_of (zip_with (entry_of yards) yards drawn.places)
    unfolding spread
    held_table room =
        table_over yards boxes (drop (4 * count) boxes) (take count keys) (omega (arith, s.few, s.many)) own_boxes (a.order
        ∙ ap (λ (n : ℕ). sorted_by key_of (map (word_of_yard boxes) (numbers_from 0 n))) s.many) before drawn.places [] (map (begin_of names lengths texts count)
        (numbers_from 0 count)) places s.drawn_many (omega (arith, room, s.many)) (begins_are yards names lengths texts count own_values) (a.recorded.placed
        ∙ ap (λ (l : List ℕ). spread 0 (map (begin_of names lengths texts count) (numbers_from 0 count)) (spread 1 l before)) s.borders_are)

    pub held_metadata : length (metadata_of (records_of yards)) ≡ records + remote
    held_metadata =
        ap (λ (vs : List (List Text)). length (metadata_of (firsts same_texts vs))) own_values
        ∙ recorded_size names count lengths texts (spread 1 (take count borders) before) kept held words places records remote sizes bytes a.recorded

    held_records : records ≡ layout_of (fields_of (records_of yards))
    held_records = a.recorded.records_are ∙ ap (λ (vs : List (List Text)). layout_of (fields_of (firsts same_texts vs))) (sym own_values)

    held_begins : 2 * count ≤ length before → map (λ (yard : ℕ). get_or places (2 * yard) 0) (numbers_from 0 (length yards)) ≡ begins_of yards
    held_begins room = let begin : ℕ → ℕ = begin_of names lengths texts count in let first : List ℕ = spread 1 (take count borders) before in
        let wide : 2 * count ≤ length first = omega (arith, room, spread_size 1 (take count borders) before) in
        ap (λ (n : ℕ). map (λ (yard : ℕ). get_or places (2 * yard) 0) (numbers_from 0 n)) (sym s.many) ∙ (map_same (λ (yard : ℕ). get_or places (2 * yard) 0)
        begin 0 count (λ yard least most. ap (λ (l : List ℕ). get_or l (2 * yard) 0) a.recorded.placed ∙ spread_read begin count first yard (omega (arith, most)) wide)
        ∙ begins_are yards names lengths texts count own_values)

    pub sums_are : 2 * count ≤ length before → (table metadata : ℕ) (greatest : ℤ) (laid : ℕ) → table ≡ length (table_from 0 0 (map (entry_of_word boxes places) (take count keys)))
        → metadata ≡ records + remote → greatest ≡ highest_of (souths_of boxes count) → laid ≡ records
        → SumsUp yards drawn places (Some (record { table = table; metadata = metadata; greatest = greatest; records = laid }))
    unfolding totals_for
    sums_are room table metadata greatest laid et em eg el = let whole : ℕ = length (table_of (zip_with (entry_of yards) yards drawn.places)) in
        let texts_too : ℕ = length (metadata_of (records_of yards)) in record {
          sums =
              ap (λ (n : ℕ). Some (record { table = n; metadata = metadata; greatest = greatest; records = laid })) (et ∙ ap length (held_table room))
              ∙ (ap (λ (n : ℕ). Some (record { table = whole; metadata = n; greatest = greatest; records = laid })) (em ∙ sym held_metadata)
              ∙ (ap (λ (z : ℤ). Some (record { table = whole; metadata = texts_too; greatest = z; records = laid })) (eg ∙ held_greatest)
              ∙ ap (λ (n : ℕ). Some (record { table = whole; metadata = texts_too; greatest = highest_of (map (λ (y : Yard). lowest_of y.lats) yards); records = n })) (el ∙ held_records)));
          begins = held_begins room;
        }

  pub held_small : names ≤ 255 → length texts ≤ 2 ^ 28
  held_small named = omega (arith, own_whole, s.short, held_all yards drawn names count boxes borders lengths texts s, mul_comm count names, lengths_room names count named s.few)

  -- ---- so nothing is broken
  pub never_long : names ≤ 255 → 536870912 < length texts → (places : List ℕ) → SumsUp yards drawn places None
  never_long named h places = absurd (omega (arith, h, held_small named))

  pub never_other : (b : Bool) → b ≡ eqb (sum_of lengths) (length texts) → b ≡ false → (places : List ℕ) → SumsUp yards drawn places None
  never_other b e n places = absurd (eqb-false (sum_of lengths) (length texts) (sym e ∙ n) (sym own_whole))
