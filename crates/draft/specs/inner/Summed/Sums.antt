-- What the functions that sum up the held yards say of each other.
use Rattle.std.specs.Prelude.{Option, Some, ◌*◌, ◌^◌, ◌≤◌, ◌≡◌}
use Rattle.numbers.specs.Prelude.{ℕ, ℤ, pos, length, take, get_or, true, List, map}
use Rattle.builder.specs.{Borders.{Drawn}, Entries.{word_of_yard}, Grouping.Keys.{numbers_from}, Metadata.{fields_of, layout_of, records_of, start_of}, Yards.{Yard, sum_of}}
use Rattle.builder.specs.inner.Drawing.Section.{spread}
use Rattle.build.specs.{Room.{enough}, declared.room.Work.{Work}, inner.Recording.Recorded.{Recorded}}
use Rattle.draft.specs.{Held.{State.{Lists, lists_as}, Totals.{Totals, totals_for}}, declared.{held.own.Own.{Own}, summed.sums.Sums.{Sums}}}
use Rattle.layout.specs.Order.{key_of, sorted_by}

-- a builder's lists, lent together
abbrev pub lists_in : Own → Lists
lists_in own = lists_as own.boxes.now own.borders.now own.lengths.now own.texts.now own.bytes.now

-- so many names and yards, lengths, borders and bytes of texts, and lists that are long enough for them
pub record Summing (names count lengths borders texts : ℕ) (work : Work) : Type 0 where
  pub named : names ≤ 255
  pub few : count ≤ 4096
  pub all : lengths ≡ names * count
  pub bordered : count ≤ borders
  pub room : enough work count (names * count) texts ≡ true

-- and the texts are those of the lengths
pub record Arranging (names count : ℕ) (lengths texts : List ℕ) (borders : ℕ) (work : Work) : Type 0 where
  pub summing : Summing names count (length lengths) borders (length texts) work
  pub whole : length texts ≡ sum_of lengths
  pub small : length texts ≤ 2 ^ 29

-- the records are laid out, the borders' places stand between theirs, and the yards are in the order of the table
pub record Arranged (names count : ℕ) (boxes : List ℤ) (borders lengths texts before keys kept held words places : List ℕ) (records remote sizes bytes : ℕ) : Type 0 where
  pub recorded : Recorded names count lengths texts (spread 1 (take count borders) before) kept held words places records remote sizes bytes
  pub order : take count keys ≡ sorted_by key_of (map (word_of_yard boxes) (numbers_from 0 count))

-- the lower latitudes of so many yards, of their boxes
unfoldable pub souths_of : List ℤ → ℕ → List ℤ
souths_of boxes count = map (λ yard. get_or boxes (4 * yard) (pos 0)) (numbers_from 0 count)

-- of the totals those that a change afar can move, and the length of the records
abbrev pub sums_of : List Yard → Drawn → Sums
sums_of yards drawn =
    let t = totals_for yards drawn in
    record { table = t.table; metadata = t.metadata; greatest = t.greatest; records = layout_of (fields_of (records_of yards)) }

-- where the record of each yard begins
abbrev pub begins_of : List Yard → List ℕ
begins_of yards = map (λ y. start_of (records_of yards) y.values) yards

-- the sums of some yards; where their records begin stands at every second place of a list
pub record SumsUp (yards : List Yard) (drawn : Drawn) (places : List ℕ) (r : Option Sums) : Type 0 where
  pub sums : r ≡ Some (sums_of yards drawn)
  pub begins : map (λ yard. get_or places (2 * yard) 0) (numbers_from 0 (length yards)) ≡ begins_of yards

-- totals with these sizes
abbrev pub sized : ℕ → ℕ → ℕ → Totals
sized table metadata bytes = record { table = table; metadata = metadata; bytes = bytes; yards = 0; greatest = pos 0 }
