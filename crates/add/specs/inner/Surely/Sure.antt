-- What the functions say that join a yard by a sure step.
use Rattle.std.specs.Prelude.{Option, Some, None, ◌+◌, ◌-◌, ◌*◌, ◌^◌, ◌≤◌, ◌<◌, ◌∷◌, ◌++◌, ◌≡◌}
use Rattle.numbers.specs.{Lists.{zeros}, Prelude.{ℕ, ℤ, length, take, List, [], map}, Reply.{Reply, given, refused}}
use Rattle.builder.specs.{Borders.{Drawn}, Yards.{Yard, sum_of}}
use Rattle.add.specs.{Growing.Notes.{Notes, Noted, NotedBy, NotesRoom}, declared.surely.sure.Next.{Next}, inner.Growing.Joins.{Growing, measured_as}}
use Rattle.draft.specs.{Held.Totals.{Totals, totals_for}, declared.held.state.Held.{Held}}
use Rattle.notes.specs.{declared.quick.step.{Numbers.{Numbers}, Stepped.{Stepped}}, inner.Quick.Steps.{Stepping, Steps}}

-- a list that is zero from a place on
abbrev pub ended_at : ℕ → List ℕ → List ℕ
ended_at n list = take n list ++ zeros (length list - n)

-- a builder's numbers, and lists that are long enough for a yard more
pub record SureRoom (held : Held) (boxes borders marks chains groups begins : ℕ) : Type 0 where
  pub few_names : held.names ≤ 255
  pub few_yards : held.yards < 4096
  pub boxed : 4 * held.yards + 4 ≤ boxes
  pub bordered : held.yards < borders
  pub noted : NotesRoom held.names (held.yards + 1) marks chains groups begins

-- and so many bytes of data, lengths and bytes of values more
pub record Joinable (held : Held) (size : ℕ) (sizes : List ℕ) (texts boxes borders marks chains groups begins : ℕ) : Type 0 where
  pub room : SureRoom held boxes borders marks chains groups begins
  pub few_bytes : held.bytes + size ≤ 2 ^ 30
  pub order : held.front ≤ held.strings
  pub inside : held.strings - held.front ≤ texts
  pub valued : length sizes ≡ held.names
  pub few_values : sum_of sizes ≤ 2 ^ 16

-- what the builder's numbers say of the yards that are held
abbrev pub numbers_of : Held → ℕ → Numbers
numbers_of held noted = record { records = noted - 1; metadata = held.metadata; table = held.table; greatest = held.greatest }

-- the step of a yard whose values are marked
abbrev pub Weighing : Held → ℕ → List ℤ → List ℕ → List ℕ → List ℕ → List ℕ → List ℕ → List ℕ → Option Stepped → Type 0
Weighing held noted boxes borders texts marks chains groups begins r =
    (yards : List Yard) (y : Yard) (drawn drawn' : Drawn) (lengths : List ℕ)
    → Stepping yards y drawn drawn' held.names held.yards (numbers_of held noted) boxes borders lengths (take ((held.yards + 1) * held.names + 1) marks) texts chains groups begins
    → Steps yards y drawn' r

-- the totals with a yard and so many bytes of data more, by a step
abbrev pub totals_by : Held → ℕ → Stepped → Totals
totals_by held size s = record { table = s.table; metadata = s.metadata; bytes = held.bytes + size; yards = held.yards + 1; greatest = s.greatest }

-- what a sure step makes of a builder's numbers, or the refusal
unfoldable pub Growths : Held → ℕ → ℕ → Option Stepped → Reply (Option Next) → Type 0
Growths held strings size weighed (given (Some next)) =
    (s : Stepped) × ((weighed ≡ Some s) × ((given next.held ≡ measured_as held strings (totals_by held size s)) × ((next.noted ≡ 1 + s.records) × (next.begin ≡ s.begin))))
Growths held strings size weighed (refused why) = (s : Stepped) × ((weighed ≡ Some s) × (refused why ≡ measured_as held strings (totals_by held size s)))
Growths held strings size weighed (given None) = Unit {0}

-- the builder with the yard and its notes, or the refusal; where it was refused or is not sure, the notes are as they were
unfoldable pub SurelyAs : Held → ℕ → List Yard → Drawn → Notes → Notes → Reply (Option Next) → Type 0
SurelyAs held strings yards drawn before after (given (Some next)) = (given next.held ≡ measured_as held strings (totals_for yards drawn)) × Noted held.names yards next.noted after
SurelyAs held strings yards drawn before after (refused why) = (refused why ≡ measured_as held strings (totals_for yards drawn)) × (after ≡ before)
SurelyAs held strings yards drawn before after (given None) = after ≡ before

-- for yards that lie in the lists, with one more, and notes that are right
abbrev pub Joins : Held → ℕ → ℕ → ℕ → List ℕ → List ℤ → List ℕ → List ℕ → Notes → Notes → Reply (Option Next) → Type 0
Joins held noted strings size sizes boxes borders texts before after r =
    (yards : List Yard) (y : Yard) (drawn drawn' : Drawn) (lengths : List ℕ) → Growing yards y drawn drawn' held size boxes borders lengths texts → sizes ≡ map length y.values
    → held.strings - held.front + sum_of sizes ≡ length texts → NotedBy held.names yards noted before → SurelyAs held strings (yards ++ (y ∷ [])) drawn' before after r
