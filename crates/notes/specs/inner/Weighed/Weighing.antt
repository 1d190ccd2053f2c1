-- What the functions that weigh a new record say.
use Rattle.std.specs.Prelude.{Option, Some, None, ◌+◌, ◌-◌, ◌*◌, ◌^◌, ◌≤◌, ◌<◌, ◌∷◌, ◌≡◌}
use Rattle.numbers.specs.Prelude.{ℕ, length, List, []}
use Rattle.builder.specs.{Grouping.Items.{starts_from, text_at, item_at}, Yards.{Text, sum_of}}
use Rattle.notes.specs.Chains.{Chains.{Chained}, Entered.{bucket_of, is_field}}
use Rattle.notes.specs.inner.Weighed.Weights.{Weight as Known, weight_of}
use Rattle.draft.proofs.held.Sure.{Sure}
use Rattle.layout.proofs.Everyone.{Every}
use Rattle.build.specs.Metadata.Kept.{fields_to}

-- where the values of some yards and of one more begin, and the chains of the fields of these yards without that one
pub record Noted (names count : ℕ) (lengths starts texts chains : List ℕ) : Type 0 where
  pub begin : starts ≡ starts_from 0 lengths
  pub all : length lengths ≡ (count + 1) * names
  pub whole : sum_of lengths ≤ length texts
  pub fields : Chained (bucket_of starts texts 1) (is_field names lengths texts) (count * names) chains

-- the bytes of a record
unfoldable pub weights_of : List Text → ℕ → List Text → ℕ
weights_of fields word [] = 0
weights_of fields word (t ∷ ts) = weight_of fields word t + weights_of fields word ts

-- what is said of a value behind others of its record
unfoldable pub WeighsOne : List Text → ℕ → List Text → Text → Option ℕ → Type 0
WeighsOne fields word seen t (Some bytes) = Known fields fields seen t × (bytes ≡ weight_of fields word t)
WeighsOne fields word seen t None = Unit {0}

-- no more than this, whatever the lists hold
unfoldable pub AtMost : ℕ → Option ℕ → Type 0
AtMost most (Some bytes) = bytes ≤ most
AtMost most None = Unit {0}

-- what is said of a value, whatever the lists hold, and where the notes are right
pub record Weighs (word : ℕ) (starts texts chains : List ℕ) (first value : ℕ) (r : Option ℕ) : Type 0 where
  pub few : AtMost (2 ^ 33) r
  pub so : (names count : ℕ) (lengths : List ℕ) → Noted names count lengths starts texts chains → first ≡ count * names → value < first + names
      → WeighsOne (fields_to names lengths texts count) word (item_at starts texts first (value - first)) (text_at starts texts value) r

-- what is said of a record: its step is sure, and it takes so many bytes
unfoldable pub WeighsAs : List Text → ℕ → List Text → Option ℕ → Type 0
WeighsAs fields word own (Some bytes) = Every (Sure fields own) own × (bytes ≡ weights_of fields word own)
WeighsAs fields word own None = Unit {0}
