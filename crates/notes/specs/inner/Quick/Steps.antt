-- What a yard more makes of the totals of those that are held, where its step is sure: no other record changes.
use Rattle.std.specs.Prelude.{Option, Some, None, ◌+◌, ◌*◌, ◌≤◌, ◌<◌, ◌∷◌, ◌++◌, ◌≡◌}
use Rattle.numbers.specs.Prelude.{ℕ, ℤ, length, take, List, [], map}
use Rattle.builder.specs.{Borders.{Drawn}, Grouping.Items.{starts_from}, Metadata.{layout_of}, Yards.{Yard}}
use Rattle.notes.specs.{Chains.Entered.{Indexed}, Noted.Records.{fields_in, begin_in}, declared.quick.step.{Numbers.{Numbers}, Stepped.{Stepped}}}
use Rattle.draft.specs.Held.{State.{Stands}, Totals.{totals_for}}

-- some yards and one more, as they lie in a builder's lists; the totals of the yards without that one, and what is noted of them
pub record Stepping (yards : List Yard) (y : Yard) (drawn drawn' : Drawn) (names count : ℕ) (numbers : Numbers) (boxes : List ℤ)
    (borders lengths starts texts chains groups begins : List ℕ) : Type 0 where
  pub many : count ≡ length yards
  pub stands : Stands (yards ++ (y ∷ [])) drawn' names (count + 1) boxes borders lengths texts
  pub place : ℕ
  pub placed : drawn'.places ≡ drawn.places ++ (place ∷ [])
  pub drawn_many : length drawn.places ≡ length yards
  pub table_is : numbers.table ≡ (totals_for yards drawn).table
  pub metadata_is : numbers.metadata ≡ (totals_for yards drawn).metadata
  pub greatest_is : numbers.greatest ≡ (totals_for yards drawn).greatest
  pub records_is : numbers.records ≡ layout_of (fields_in yards)
  pub starts_are : starts ≡ starts_from 0 lengths
  pub indexed : Indexed names lengths texts count chains groups
  pub begins_are : take count begins ≡ map (begin_in yards) yards

-- the totals with that yard, the records' length, and where its record begins; every other record begins where it began
pub record Grown (yards : List Yard) (y : Yard) (drawn' : Drawn) (s : Stepped) : Type 0 where
  pub table : s.table ≡ (totals_for (yards ++ (y ∷ [])) drawn').table
  pub metadata : s.metadata ≡ (totals_for (yards ++ (y ∷ [])) drawn').metadata
  pub greatest : s.greatest ≡ (totals_for (yards ++ (y ∷ [])) drawn').greatest
  pub records : s.records ≡ layout_of (fields_in (yards ++ (y ∷ [])))
  pub begins : map (begin_in (yards ++ (y ∷ []))) (yards ++ (y ∷ [])) ≡ map (begin_in yards) yards ++ (s.begin ∷ [])

-- a sure step grows the totals so; of an unsure one nothing is said
unfoldable pub Steps : List Yard → Yard → Drawn → Option Stepped → Type 0
Steps yards y drawn' (Some s) = Grown yards y drawn' s
Steps yards y drawn' None = Unit {0}

-- so many names and yards, and lists that are long enough for one yard more
pub record Room (names count boxes borders starts chains groups begins : ℕ) : Type 0 where
  pub few_names : names ≤ 255
  pub few_yards : count < 4096
  pub boxed : 4 * count + 4 ≤ boxes
  pub bordered : count < borders
  pub started : starts ≡ (count + 1) * names + 1
  pub chained : 4096 + (count + 1) * names ≤ chains
  pub grouped : 4096 + count < groups
  pub begun : count < begins
