-- Where the record of a yard more begins, and what it adds, by the notes of the yards before it.
use Rattle.std.specs.Prelude.{Option, Some, None, ◌*◌, ◌≤◌, ◌≡◌}
use Rattle.numbers.specs.Prelude.{ℕ, length, take, List, map, flat_map}
use Rattle.builder.specs.{Grouping.Items.{item_at}, Metadata.{inlined, layout_of, remotes}, Yards.{Yard}}
use Rattle.notes.specs.{Chains.{Chains.{Chained}, Entered.{bucket_of, is_first}}, Noted.Records.{fields_in, begin_in}, declared.quick.place.Placing.{Placing}, inner.Noted.OneMore.{OneMore}}
use Rattle.notes.specs.inner.Weighed.Weighing.{Noted}
use Rattle.build.specs.Metadata.Kept.{values_to}

-- some yards and one more by their values, the notes of the fields, and the lengths of the records and of the texts behind them without that one
pub record Behind (yards : List Yard) (y : Yard) (names count records remote : ℕ) (lengths starts texts chains : List ℕ) : Type 0 where
  pub values_are : map (λ x. x.values) yards ≡ values_to names lengths texts count
  pub own : y.values ≡ item_at starts texts (count * names) names
  pub noted : Noted names count lengths starts texts chains
  pub records_is : records ≡ layout_of (fields_in yards)
  pub remote_is : remote ≡ length (flat_map inlined (remotes (fields_in yards)))

-- and the notes of the records: their chains, and where they begin
pub record Beside (yards : List Yard) (y : Yard) (names count records remote : ℕ) (lengths starts texts chains groups begins : List ℕ) : Type 0 where
  pub behind : Behind yards y names count records remote lengths starts texts chains
  pub grouped : Chained (bucket_of starts texts names) (is_first names lengths texts) count groups
  pub begins_are : take count begins ≡ map (begin_in yards) yards

-- no other record changes, and this one begins there; of an unsure one nothing is said
unfoldable pub Places : List Yard → Yard → Option Placing → Type 0
Places yards y (Some p) = OneMore yards y p.by p.begin
Places yards y None = Unit {0}

-- no more than this, whatever the lists hold
unfoldable pub AddsAtMost : ℕ → Option Placing → Type 0
AddsAtMost most (Some p) = p.by ≤ most
AddsAtMost most None = Unit {0}
