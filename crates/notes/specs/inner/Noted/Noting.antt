-- What the functions that note a builder's yards say. Notes may be forged: they speak of notes that were right.
use Rattle.std.specs.Prelude.{◌+◌, ◌*◌, ◌≤◌, ◌<◌, ◌≡◌}
use Rattle.numbers.specs.Prelude.{ℕ, length, Bool, true, List}
use Rattle.builder.specs.{Grouping.Items.{starts_from}, Yards.{sum_of}}
use Rattle.notes.specs.Chains.{Chains.{Chained, ItemsInside}, Entered.{bucket_of, Indexed}}

-- chains of single values up to a yard's are chains with the first so many of its values, where these count as entered
abbrev pub EntersAll : ℕ → ℕ → List ℕ → List ℕ → List ℕ → List ℕ → ℕ → Type 0
EntersAll names yard starts texts before after fields =
    (entered : ℕ → Bool) → ItemsInside starts texts names yard → Chained (bucket_of starts texts 1) entered (yard * names) before
    → ((field : ℕ) → field < names → entered (yard * names + field) ≡ true) → Chained (bucket_of starts texts 1) entered (yard * names + fields) after

-- notes that were right of the yards before one are right with it
abbrev pub NotesOne : ℕ → ℕ → List ℕ → List ℕ → List ℕ → List ℕ → List ℕ → List ℕ → Type 0
NotesOne names yard starts texts chains groups chains' groups' =
    (lengths : List ℕ) → starts ≡ starts_from 0 lengths → sum_of lengths ≤ length texts → (yard + 1) * names ≤ length lengths
    → Indexed names lengths texts yard chains groups → Indexed names lengths texts (yard + 1) chains' groups'

-- notes that are right of so many yards
abbrev pub NotesAll : ℕ → ℕ → List ℕ → List ℕ → List ℕ → List ℕ → Type 0
NotesAll names count starts texts chains groups =
    (lengths : List ℕ) → starts ≡ starts_from 0 lengths → sum_of lengths ≤ length texts → count * names ≤ length lengths → Indexed names lengths texts count chains groups
