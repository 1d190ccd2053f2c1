-- What the functions that replace a value say of each other.
use Rattle.std.specs.Prelude.{if◌then◌else◌, ◌+◌, ◌-◌, ◌*◌, ◌^◌, ◌≤◌, ◌<◌, ◌≡◌}
use Rattle.numbers.specs.{Prelude.{ℕ, leb, ℤ, pos, length, take, drop, set, Bool, true, List}, Reply.{Reply, given, refused, plain}}
use Rattle.build.specs.{Room.{enough}, declared.room.Work.{Work}}
use Rattle.builder.specs.{Borders.{Drawn}, File.{is_text, up_to}, Yards.{Text, Yard}}
use Rattle.draft.specs.{Held.{Builder.{Builder, fitting, summed}, Space.{Space}, State.{Answers, Holds, Lists, Stands}, Totals.{file_size, totals_for}}}
use Rattle.draft.specs.declared.held.state.Held.{Held}
use Rattle.edit.specs.{Replacing.Replaced.{replaced}, declared.replacing.check.Spot.{Spot}, inner.Replacing.{Exchange.{Exchanged}, Spot.{size_with, spot_in, text_at}}}
use Rattle.draft.specs.Held.State

-- only the length of the file is left to ask
abbrev pub after_checks : Space
after_checks = record { bytes = 0; lists = true }

-- a text was put in the place of a value
unfoldable pub Renews : Held → Spot → Text → Lists → Lists → Reply Held → Type 0
Renews held spot text before after r =
    (b : Builder) (yard field : ℕ) → Holds b held before → yard < length b.plan.yards → field < length b.plan.names → is_text text ≡ true
    → spot ≡ spot_in (text_at held.names yard field) before.lengths → Answers (fitting after_checks (summed (replaced b.plan yard field text) b.room)) before after r

-- the builder with other texts, and sums that were taken of them: 28 if its file does not fit
abbrev pub held_with : Held → ℕ → ℕ → ℕ → ℤ → Held
held_with held strings table metadata greatest =
    State.held_with held strings (record { table = table; metadata = metadata; bytes = held.bytes; yards = held.yards; greatest = greatest })

unfoldable pub size_fits : Held → ℕ → ℕ → Bool
size_fits held table metadata = leb (file_size held.head (record { table = table; metadata = metadata; bytes = held.bytes; yards = 0; greatest = pos 0 })) (up_to held.room)

unfoldable pub resummed : Held → ℕ → ℕ → ℕ → ℤ → Reply Held
resummed held strings table metadata greatest = if size_fits held table metadata then given (held_with held strings table metadata greatest) else refused (plain 28)

-- of yards that lie in these lists
unfoldable pub Resums : Held → ℕ → List ℤ → List ℕ → List ℕ → List ℕ → Reply Held → Type 0
Resums held strings boxes borders lengths texts r =
    (yards : List Yard) (drawn : Drawn)
    → Stands yards drawn held.names held.yards boxes borders (take (held.names + 1 + held.names * held.yards - (held.names + 1)) (drop (held.names + 1) lengths))
    (take (strings - held.front) (drop held.front texts))
    → r ≡ resummed held strings (totals_for yards drawn).table (totals_for yards drawn).metadata (totals_for yards drawn).greatest

-- a text and its length stand where those of another stood, up to a place
pub record PutIn (spot : Spot) (strings : ℕ) (text lengths texts lengths' texts' : List ℕ) (end : ℕ) : Type 0 where
  pub sized : lengths' ≡ set lengths spot.index (length text)
  pub put : Exchanged spot.place spot.from strings text texts texts' end

-- the same place, of a text of this size
abbrev pub spot_up_to : Spot → ℕ → Spot
spot_up_to spot size = record { index = spot.index; place = spot.place; from = spot.place + size }

-- the other text is back where it was refused
unfoldable pub TakenBack : Reply Held → Spot → ℕ → List ℕ → List ℕ → List ℕ → List ℕ → List ℕ → Reply Held → Type 0
TakenBack (given held) spot strings old lengths texts lengths' texts' r = (r ≡ given held) × ((lengths' ≡ lengths) × (texts' ≡ texts))
TakenBack (refused why) spot strings old lengths texts lengths' texts' r = (r ≡ refused why) × ((end : ℕ) × PutIn spot strings old lengths texts lengths' texts' end)

-- so much room there is to sum up in
pub record Resumming (held : Held) (strings borders lengths texts : ℕ) (work : Work) : Type 0 where
  pub few_names : held.names ≤ 255
  pub few_yards : held.yards ≤ 4096
  pub front_first : held.front ≤ strings
  pub borders_room : held.yards ≤ borders
  pub lengths_room : held.names + 1 + held.names * held.yards ≤ lengths
  pub texts_room : strings ≤ texts
  pub room : enough work held.yards (held.names * held.yards) (strings - held.front) ≡ true

-- a text of this size may be put there
pub record Putting (held : Held) (spot : Spot) (size borders lengths texts out : ℕ) (work : Work) : Type 0 where
  pub index_in : spot.index < lengths
  pub ordered : spot.place ≤ spot.from
  pub inside : spot.from ≤ held.strings
  pub few_old : spot.from - spot.place ≤ 255
  pub short : held.strings ≤ 2 ^ 40
  pub old_fits : held.strings ≤ texts
  pub aside : held.strings ≤ out
  pub few : size ≤ 255
  pub resumming : Resumming held (size_with held spot size) borders lengths texts work
