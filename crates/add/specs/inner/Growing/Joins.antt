-- What the functions that add a yard say of each other.
use Rattle.std.specs.Prelude.{if◌then◌else◌, ◌+◌, ◌^◌, ◌≤◌, ◌<◌, ◌∷◌, ◌++◌, ◌≡◌}
use Rattle.numbers.specs.{Prelude.{ℕ, leb, ℤ, length, List, []}, Reply.{Reply, given, refused, plain}}
use Rattle.builder.specs.{Borders.{Drawn}, File.{up_to}, Yards.{Yard}}
use Rattle.draft.specs.{Held.{State.{Stands, held_with}, Totals.{Totals, totals_for, file_size}}, declared.{held.state.Held.{Held}, summed.sums.Sums.{Sums}}}
use Rattle.add.specs.{Growing.{Joins.{Renoted}, Notes.{Notes}}, declared.growing.grow.Added.{Added}}

-- the numbers with these totals; 28 where the file does not fit
unfoldable pub measured_as : Held → ℕ → Totals → Reply Held
measured_as held strings t = if leb (file_size held.head t) (up_to held.room) then given (held_with held strings t) else refused (plain 28)

-- so many bytes more of data are not too many
pub record Grows (held : Held) (size : ℕ) : Type 0 where
  pub few_yards : held.yards < 4096
  pub few_bytes : held.bytes + size ≤ 2 ^ 30

-- the totals with a yard and so many bytes of data more, and these sums
abbrev pub totals_with : Held → ℕ → Sums → Totals
totals_with held size sums = record { table = sums.table; metadata = sums.metadata; bytes = held.bytes + size; yards = held.yards + 1; greatest = sums.greatest }

-- some yards, and one more that lies behind them in a builder's lists; the builder's totals are those of the yards without it. Lengths and texts are those of the values alone
pub record Growing (yards : List Yard) (y : Yard) (drawn drawn' : Drawn) (held : Held) (size : ℕ) (boxes : List ℤ) (borders lengths texts : List ℕ) : Type 0 where
  pub many : held.yards ≡ length yards
  pub stands : Stands (yards ++ (y ∷ [])) drawn' held.names (held.yards + 1) boxes borders lengths texts
  pub bytes : length drawn'.bytes ≡ held.bytes + size
  pub place : ℕ
  pub placed : drawn'.places ≡ drawn.places ++ (place ∷ [])
  pub drawn_many : length drawn.places ≡ length yards
  pub table_is : held.table ≡ (totals_for yards drawn).table
  pub metadata_is : held.metadata ≡ (totals_for yards drawn).metadata
  pub greatest_is : held.greatest ≡ (totals_for yards drawn).greatest

-- the builder with that yard, by its totals; and its notes
pub record Grew (yards : List Yard) (drawn : Drawn) (held : Held) (strings noted : ℕ) (before after : Notes) (r : Added) : Type 0 where
  pub changed : r.changed ≡ measured_as held strings (totals_for yards drawn)
  pub notes : Renoted held.names yards noted before r.noted after r.changed
