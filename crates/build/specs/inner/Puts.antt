-- What is written of a file, from the lists that stand while it is built.
use Rattle.std.specs.Prelude.{◌+◌, ◌*◌, ◌^◌, ◌≤◌, ◌<◌, ◌++◌, ◌≡◌}
use Rattle.numbers.specs.Prelude.{ℕ, length, take, List, map, flat_map}
use Rattle.builder.specs.{Metadata.{inlined, remotes, joined_from, field_bytes}, Yards.{cut_by, sum_of}}
use Rattle.build.specs.inner.Metadata.Words.{word_in}

-- the metadata section: the records by their words, the texts behind them
unfoldable pub section_from : ℕ → List ℕ → List ℕ → List ℕ → List ℕ
section_from records words lengths texts = joined_from (field_bytes records words) 0 (cut_by lengths texts) ++ flat_map inlined (remotes (cut_by lengths texts))

-- the words are those of the fields, and the section has this size
pub record Sectioned (records size : ℕ) (words lengths texts : List ℕ) : Type 0 where
  pub many : length lengths ≤ length words
  pub whole : sum_of lengths ≤ length texts
  pub bound : sum_of lengths + 10 * length lengths < 2 ^ 32
  pub words_are : take (length lengths) words ≡ map (word_in (cut_by lengths texts)) (cut_by lengths texts)
  pub size_is : size ≡ length (section_from records words lengths texts)
  pub small : size < 2 ^ 34

-- texts of these lengths are there, none too long
pub record Headed (lengths texts : List ℕ) : Type 0 where
  pub whole : sum_of lengths ≤ length texts
  pub bound : sum_of lengths + 10 * length lengths < 2 ^ 32

-- the same of lists that it stands at the front of
pub record SectionIn (records remote sizes bytes : ℕ) (kept held words : List ℕ) : Type 0 where
  pub kept_in : sizes ≤ length kept
  pub held_in : bytes ≤ length held
  pub words_in : sizes ≤ length words
  pub section : Sectioned records (records + remote) (take sizes words) (take sizes kept) (take bytes held)
