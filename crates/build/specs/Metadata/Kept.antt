-- What the functions that lay out the metadata section say.
use Rattle.std.specs.Prelude.{◌+◌, ◌*◌, ◌^◌, ◌≤◌, ◌<◌, ◌≡◌}
use Rattle.numbers.specs.Prelude.{ℕ, length, take, get_or, List, map, flat_map}
use Rattle.writer.specs.inner.Stored.{Stored}
use Rattle.builder.specs.{Grouping.{Items.{starts_from, item_at}, Keys.{numbers_from, first_of}}, Metadata.{fields_of, layout_of, start_of}, Sharing.{same_texts, firsts}, Yards.{Text, sum_of}}
use Rattle.builder.specs.inner.Drawing.Section.{spread}
use Rattle.build.specs.inner.Metadata.Words.{word_in}

-- the values of the first so many yards, of so many names, from their lengths and texts
unfoldable pub values_to : ℕ → List ℕ → List ℕ → ℕ → List (List Text)
values_to names lengths texts count = map (λ yard. item_at (starts_from 0 lengths) texts (yard * names) names) (numbers_from 0 count)

-- the fields of their records
abbrev pub fields_to : ℕ → List ℕ → List ℕ → ℕ → List Text
fields_to names lengths texts count = fields_of (firsts same_texts (values_to names lengths texts count))

-- the bytes of texts, one after another
abbrev pub joined : List Text → List ℕ
joined = flat_map (λ t. t)

-- the fields' lengths and bytes stand at the front of two lists, and each yard's first yard at every second place of another
pub record Keeps (names count : ℕ) (lengths texts before places kept kept' held held' : List ℕ) (sizes bytes : ℕ) : Type 0 where
  pub first : places ≡ spread 0 (map (first_of (starts_from 0 lengths) texts names count) (numbers_from 0 count)) before
  pub lengths_are : Stored kept 0 (map length (fields_to names lengths texts count)) kept' sizes
  pub texts_are : Stored held 0 (joined (fields_to names lengths texts count)) held' bytes

-- where the record of a yard begins in the section
abbrev pub begin_of : ℕ → List ℕ → List ℕ → ℕ → ℕ → ℕ
begin_of names lengths texts count yard = start_of (firsts same_texts (values_to names lengths texts count)) (item_at (starts_from 0 lengths) texts (yard * names) names)

-- the words of all fields and the records' length are known, and each yard's first yard stands at every second place
pub record Ready (names records count : ℕ) (words lengths texts starts places : List ℕ) : Type 0 where
  pub begin : starts ≡ starts_from 0 lengths
  pub whole : sum_of lengths ≤ length texts
  pub all : length lengths ≡ count * names
  pub few : count ≤ 4096
  pub bound : length texts + 10 * length lengths < 2 ^ 32
  pub room : length (fields_to names lengths texts count) ≤ length words
  pub words_are : take (length (fields_to names lengths texts count)) words ≡ map (word_in (fields_to names lengths texts count)) (fields_to names lengths texts count)
  pub layout : records ≡ layout_of (fields_to names lengths texts count)
  pub first : (yard : ℕ) → yard < count → get_or places (2 * yard) 0 ≡ first_of (starts_from 0 lengths) texts names count yard
  pub places_room : 2 * count ≤ length places
