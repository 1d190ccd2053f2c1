-- What the functions say that sum up a builder's lists with a yard more, and note it afresh.
use Rattle.std.specs.Prelude.{◌+◌, ◌*◌, ◌^◌, ◌≤◌, ◌<◌, ◌≡◌}
use Rattle.numbers.specs.Prelude.{ℕ, ℤ, length, get_or, List, map}
use Rattle.build.specs.{Metadata.Kept.{joined}, declared.room.Work.{Work}}
use Rattle.builder.specs.{Borders.{Drawn}, Grouping.Keys.{numbers_from}, Metadata.{layout_of}, Yards.{Yard, sum_of}}
use Rattle.add.specs.{Growing.Notes.{NotesRoom, values_in}, declared.afresh.measure.Measured.{Measured}, inner.Growing.Joins.{measured_as}}
use Rattle.draft.specs.{Held.{State.{Stands}, Totals.{totals_for}}, declared.held.state.Held.{Held}, inner.Summed.Sums.{Summing, begins_of}}
use Rattle.notes.specs.Noted.Records.{fields_in}

-- where each yard's record begins, at every second place
abbrev pub gathered : List ℕ → ℕ → List ℕ
gathered places count = map (λ yard. get_or places (2 * yard) 0) (numbers_from 0 count)

-- a yard more than a builder has, and so many bytes more of data, can be summed up in lists of these lengths; lengths and texts are those of the values alone
pub record Measuring (held : Held) (size borders lengths texts : ℕ) (work : Work) : Type 0 where
  pub few_bytes : held.bytes + size ≤ 2 ^ 30
  pub few_yards : held.yards < 4096
  pub summing : Summing held.names (held.yards + 1) lengths borders texts work

-- what the lists make of the builder, by a fresh sum over the yards that lie in them; the length of the records, and where they begin
pub record Measures (yards : List Yard) (drawn : Drawn) (held : Held) (strings : ℕ) (places : List ℕ) (m : Measured) : Type 0 where
  pub changed : m.changed ≡ measured_as held strings (totals_for yards drawn)
  pub records : m.records ≡ layout_of (fields_in yards)
  pub begins : gathered places (length yards) ≡ begins_of yards

-- some yards lie in these lists, and their data is so long
abbrev pub Lying : Held → ℕ → List ℤ → List ℕ → List ℕ → List ℕ → (List Yard → Drawn → Type 0) → Type 0
Lying held size boxes borders lengths texts So =
    (yards : List Yard) (drawn : Drawn) → length drawn.bytes ≡ held.bytes + size → Stands yards drawn held.names (held.yards + 1) boxes borders lengths texts → So yards drawn

-- the values of some yards lie in these lists, of no more than 255 bytes each on average, and where their records begin in the third
pub record Values (yards : List Yard) (names count : ℕ) (lengths texts places : List ℕ) : Type 0 where
  pub many : count ≡ length yards
  pub lengths_are : lengths ≡ map length (values_in yards)
  pub texts_are : texts ≡ joined (values_in yards)
  pub begins : gathered places count ≡ begins_of yards
  pub short : sum_of lengths ≤ 255 * length lengths

-- so many yards can be noted
pub record Notable (names count lengths places marks chains groups begins : ℕ) : Type 0 where
  pub few_names : names ≤ 255
  pub few_yards : count ≤ 4096
  pub all : lengths ≡ names * count
  pub gathers : 2 * count ≤ places
  pub room : NotesRoom names count marks chains groups begins
