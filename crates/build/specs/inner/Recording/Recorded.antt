-- What the functions that lay out the metadata section say.
use Rattle.std.specs.Prelude.{◌+◌, ◌*◌, ◌^◌, ◌≤◌, ◌<◌, ◌≡◌}
use Rattle.numbers.specs.Prelude.{ℕ, length, take, List, map, flat_map}
use Rattle.builder.specs.{Grouping.Keys.{numbers_from}, Metadata.{inlined, remotes, layout_of}, Yards.{Text, sum_of}, inner.Drawing.Section.{spread}}
use Rattle.layout.specs.inner.Layout.{Least}
use Rattle.build.specs.{Metadata.Kept.{fields_to, joined, begin_of}, inner.Metadata.Words.{word_in}}

-- the least length that fits is below 2 ^ 32
pub record Short (inline : ℕ) (words : List ℕ) : Type 0 where
  pub records : ℕ
  pub is : Least inline words records
  pub small : records < 2 ^ 32

-- the values of so many yards are there, and so is what is wanted to find the records that they share
pub record Shares (names count : ℕ) (lengths texts : List ℕ) (starts spare places : ℕ) : Type 0 where
  pub all : length lengths ≡ count * names
  pub whole : length texts ≡ sum_of lengths
  pub few : count ≤ 4096
  pub bound : sum_of lengths + 10 * length lengths < 2 ^ 32
  pub starts_room : starts ≡ length lengths + 1
  pub spare_room : count ≤ spare
  pub places_room : 2 * count ≤ places

-- the fields of all records are there, and so is what is wanted to find their words
pub record Fields (lengths texts : List ℕ) (starts keys spare words : ℕ) : Type 0 where
  pub whole : sum_of lengths ≤ length texts
  pub bound : sum_of lengths + 10 * length lengths < 2 ^ 32
  pub starts_room : starts ≡ length lengths + 1
  pub keys_room : keys ≡ length lengths
  pub spare_room : length lengths ≤ spare
  pub words_room : length lengths ≤ words

-- the words of all fields, the least length of the records, and the bytes behind them
pub record Fielded (fields : List Text) (words : List ℕ) (records remote : ℕ) : Type 0 where
  pub words_are : take (length fields) words ≡ map (word_in fields) fields
  pub records_are : records ≡ layout_of fields
  pub remote_is : remote ≡ length (flat_map inlined (remotes fields))

-- the values of so many yards, and lists that are long enough
pub record Laying (names count : ℕ) (lengths texts : List ℕ) (starts keys spare kept held words places : ℕ) : Type 0 where
  pub all : length lengths ≡ count * names
  pub whole : length texts ≡ sum_of lengths
  pub few : count ≤ 4096
  pub bound : sum_of lengths + 10 * length lengths < 2 ^ 32
  pub starts_room : length lengths < starts
  pub keys_count : count ≤ keys
  pub keys_room : length lengths ≤ keys
  pub spare_count : count ≤ spare
  pub spare_room : length lengths ≤ spare
  pub kept_room : length lengths ≤ kept
  pub held_room : sum_of lengths ≤ held
  pub words_room : length lengths ≤ words
  pub places_room : 2 * count ≤ places

-- the fields' lengths, texts and words stand at the front of three lists, and where each yard's record begins at every second place of another
pub record Recorded (names count : ℕ) (lengths texts before kept held words places : List ℕ) (records remote sizes bytes : ℕ) : Type 0 where
  pub kept_in : sizes ≤ length kept
  pub held_in : bytes ≤ length held
  pub words_in : sizes ≤ length words
  pub lengths_are : take sizes kept ≡ map length (fields_to names lengths texts count)
  pub texts_are : take bytes held ≡ joined (fields_to names lengths texts count)
  pub words_are : take sizes words ≡ map (word_in (fields_to names lengths texts count)) (fields_to names lengths texts count)
  pub records_are : records ≡ layout_of (fields_to names lengths texts count)
  pub remote_is : remote ≡ length (flat_map inlined (remotes (fields_to names lengths texts count)))
  pub placed : places ≡ spread 0 (map (begin_of names lengths texts count) (numbers_from 0 count)) before
